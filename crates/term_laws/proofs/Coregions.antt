-- Coregions of equal actions: their residual terms are the coregions with so many actions taken out.
use Rattle.std.specs.Prelude.{ℕ, zero, suc, Bool, true, false, ◌&&◌, List, [], ◌∷◌, ◌++◌, None, ◌≡◌, ◌==◌, refl}
use Rattle.std.proofs.Common.{ap, sym, ◌∙◌}
use Rattle.msc_base.specs.Patterns.{par}
use Rattle.chart_term.specs.Equality.{same_numbers, same_tree, same_trees}
use Rattle.chart_term.specs.NormalForms.{NetPermits, flat, join_of, unless_same, without, distinct}
use Rattle.chart_term.specs.Terms.{TermEvent, Tree, Event, items, trees}
use Rattle.term_laws.specs.Listing.{Taken, TakenParts, joined, behind_part, listed, listed_parts, after_list, labelled_one, labelled, all_after, next_set, residual_set}
use Rattle.term_laws.proofs.Removals.{with_first, removals, all_removed, unless_list, without_list, once, HasNoRepeats, removed_again}

-- the action of this number: all have the same instance and label
abbrev pub action : ℕ → TermEvent
action n = record { number = n; at = 0; also = None; label = 0 }

abbrev pub actions : List ℕ → List Tree
actions [] = []
actions (n ∷ ns) = Event (action n) ∷ actions ns

-- the coregion of these actions, and of each list of them
abbrev pub coregion_of : List ℕ → Tree
coregion_of ns = join_of par (actions ns)

abbrev pub coregions : List (List ℕ) → List Tree
coregions [] = []
coregions (x ∷ xs) = coregion_of x ∷ coregions xs

coregions_app : (a b : List (List ℕ)) → coregions (a ++ b) ≡ coregions a ++ coregions b
coregions_app [] b = refl
coregions_app (x ∷ a) b = ap (λ l. coregion_of x ∷ l) (coregions_app a b)

-- coregions are equal where their numbers are
same_step : (t u v : Bool) → u ≡ v → (((t && true) && true) && u) ≡ (t && v)
same_step true u v h = h
same_step false u v h = refl

same_actions : (a b : List ℕ) → same_trees (trees (actions a)) (trees (actions b)) ≡ same_numbers a b
same_actions [] [] = refl
same_actions [] (n ∷ b) = refl
same_actions (m ∷ a) [] = refl
same_actions (m ∷ a) (n ∷ b) = same_step (m == n) (same_trees (trees (actions a)) (trees (actions b))) (same_numbers a b) (same_actions a b)

and_no : (t : Bool) → false ≡ (t && false)
and_no true = refl
and_no false = refl

same_coregions : (a b : List ℕ) → same_tree (coregion_of a) (coregion_of b) ≡ same_numbers a b
same_coregions [] [] = refl
same_coregions [] (n ∷ []) = refl
same_coregions [] (n ∷ p ∷ b) = refl
same_coregions (m ∷ []) [] = refl
same_coregions (m ∷ []) (n ∷ []) = go (m == n)
  where
    go : (t : Bool) → ((t && true) && true) ≡ (t && true)
    go true = refl
    go false = refl
same_coregions (m ∷ []) (n ∷ p ∷ b) = and_no (m == n)
same_coregions (m ∷ q ∷ a) [] = refl
same_coregions (m ∷ q ∷ a) (n ∷ []) = and_no (m == n)
same_coregions (m ∷ q ∷ a) (n ∷ p ∷ b) = same_actions (m ∷ q ∷ a) (n ∷ p ∷ b)

without_coregions : (x : List ℕ) (ys : List (List ℕ)) → without (coregion_of x) (coregions ys) ≡ coregions (without_list x ys)
without_coregions x [] = refl
without_coregions x (y ∷ ys) = (λ i. unless_same (same_coregions x y i) (coregion_of y) (without_coregions x ys i)) ∙ go (same_numbers x y)
  where
    go : (t : Bool) → unless_same t (coregion_of y) (coregions (without_list x ys)) ≡ coregions (unless_list t y (without_list x ys))
    go true = refl
    go false = refl

distinct_coregions : (xs : List (List ℕ)) → distinct (coregions xs) ≡ coregions (once xs)
distinct_coregions [] = refl
distinct_coregions (x ∷ xs) = ap (λ l. coregion_of x ∷ l) (ap (without (coregion_of x)) (distinct_coregions xs) ∙ without_coregions x (once xs))

-- what is left when one action is taken
flat_actions : (ns : List ℕ) → flat par (items (trees (actions ns))) ≡ actions ns
flat_actions [] = refl
flat_actions (n ∷ ns) = ap (λ l. Event (action n) ∷ l) (flat_actions ns)

-- the parts that each leaves, where its label is 0
abbrev left_one : Bool → List Tree → List (List Tree) → List (List Tree)
left_one true x xs = x ∷ xs
left_one false x xs = xs

abbrev left : List TakenParts → List (List Tree)
left [] = []
left (p ∷ ps) = left_one (p.event.label == 0) (flat par p.parts_left) (left ps)

abbrev joins : List (List Tree) → List Tree
joins [] = []
joins (x ∷ xs) = join_of par x ∷ joins xs

abbrev before_each : Tree → List (List Tree) → List (List Tree)
before_each x [] = []
before_each x (y ∷ ys) = (x ∷ y) ∷ before_each x ys

abbrev each_actions : List (List ℕ) → List (List Tree)
each_actions [] = []
each_actions (x ∷ xs) = actions x ∷ each_actions xs

labelled_joined : (ps : List TakenParts) → labelled 0 (joined par ps) ≡ joins (left ps)
labelled_joined [] = refl
labelled_joined (p ∷ ps) = go (p.event.label == 0) (labelled_joined ps)
  where
    go : (t : Bool) → labelled 0 (joined par ps) ≡ joins (left ps) → labelled_one t (join_of par (flat par p.parts_left)) (labelled 0 (joined par ps)) ≡ joins (left_one t (flat par p.parts_left) (left ps))
    go true h = ap (λ l. join_of par (flat par p.parts_left) ∷ l) h
    go false h = h

joins_actions : (xs : List (List ℕ)) → joins (each_actions xs) ≡ coregions xs
joins_actions [] = refl
joins_actions (x ∷ xs) = ap (λ l. coregion_of x ∷ l) (joins_actions xs)

before_actions : (n : ℕ) (xs : List (List ℕ)) → before_each (Event (action n)) (each_actions xs) ≡ each_actions (with_first n xs)
before_actions n [] = refl
before_actions n (x ∷ xs) = ap (λ l. actions (n ∷ x) ∷ l) (before_actions n xs)

module _ (k : NetPermits) (g : Tree → List Taken) where
  left_behind : (n : ℕ) (ps : List TakenParts) → left (behind_part k par (Event (action n)) ps) ≡ before_each (Event (action n)) (left ps)
  left_behind n [] = refl
  left_behind n (p ∷ ps) = go (p.event.label == 0) (left_behind n ps)
    where
      go : (t : Bool) → left (behind_part k par (Event (action n)) ps) ≡ before_each (Event (action n)) (left ps)
          → left_one t (Event (action n) ∷ flat par p.parts_left) (left (behind_part k par (Event (action n)) ps)) ≡ before_each (Event (action n)) (left_one t (flat par p.parts_left) (left ps))
      go true h = ap (λ l. (Event (action n) ∷ flat par p.parts_left) ∷ l) h
      go false h = h

  left_parts : (ns : List ℕ) → left (listed_parts k g par (trees (actions ns))) ≡ each_actions (removals 1 ns)
  left_parts [] = refl
  left_parts (n ∷ ns) = λ i. flat_actions ns i ∷ (left_behind n (listed_parts k g par (trees (actions ns))) ∙ ap (before_each (Event (action n))) (left_parts ns) ∙ before_actions n (removals 1 ns)) i

  taken_actions : (ns : List ℕ) → labelled 0 (joined par (listed_parts k g par (trees (actions ns)))) ≡ coregions (removals 1 ns)
  taken_actions ns = labelled_joined (listed_parts k g par (trees (actions ns))) ∙ ap joins (left_parts ns) ∙ joins_actions (removals 1 ns)

  pub taken_coregion : (ns : List ℕ) → labelled 0 (listed k g (coregion_of ns)) ≡ coregions (removals 1 ns)
  taken_coregion [] = refl
  taken_coregion (n ∷ []) = refl
  taken_coregion (n ∷ m ∷ ns) = taken_actions (n ∷ m ∷ ns)

-- the sets of residual terms of a coregion
module _ (depth : ℕ) (k : NetPermits) where
  after_coregions : (xs : List (List ℕ)) → all_after (suc depth) k 0 (coregions xs) ≡ coregions (all_removed xs)
  after_coregions [] = refl
  after_coregions (x ∷ xs) = (λ i. taken_coregion k (after_list depth k) x i ++ after_coregions xs i) ∙ sym (coregions_app (removals 1 x) (all_removed xs))

  pub next_coregions : (j : ℕ) (ns : List ℕ) → HasNoRepeats ns → next_set (suc depth) k 0 (coregions (removals j ns)) ≡ coregions (removals (suc j) ns)
  next_coregions j ns h = ap distinct (after_coregions (removals j ns)) ∙ distinct_coregions (all_removed (removals j ns)) ∙ ap coregions (removed_again j ns h)

-- so many labels
abbrev pub labels : ℕ → List ℕ
labels zero = []
labels (suc m) = 0 ∷ labels m

abbrev pub raised : ℕ → ℕ → ℕ
raised zero j = j
raised (suc m) j = raised m (suc j)

module _ (depth : ℕ) (k : NetPermits) (ns : List ℕ) (h : HasNoRepeats ns) where
  sets_from : (m j : ℕ) → residual_set (suc depth) k (coregions (removals j ns)) (labels m) ≡ coregions (removals (raised m j) ns)
  sets_from zero j = refl
  sets_from (suc m) j = ap (λ l. residual_set (suc depth) k l (labels m)) (next_coregions depth k j ns h) ∙ sets_from m (suc j)

  -- after so many actions they are the coregions with so many taken out
  pub coregion_sets : (m : ℕ) → residual_set (suc depth) k (coregion_of ns ∷ []) (labels m) ≡ coregions (removals (raised m 0) ns)
  coregion_sets m = sets_from m 0
