-- An expansion that is made from a greater first number on is the one with greater numbers.
use Rattle.std.specs.Prelude.{ℕ, zero, suc, ◌+◌, Bool, true, false, filter, List, [], ◌∷◌, ◌++◌, map, if◌then◌else◌}
use Rattle.std.proofs.Common.{◌≡◌, ◌∙◌, refl, sym, ap, arith}
use Rattle.std.proofs.lemmas.List.{map-append}
use Rattle.msc_unfolding.specs.Unfoldings.{Tag, is_same_tag}
use Rattle.hmsc_graph.specs.declared.shape.Shape.{Shape}
use Rattle.msc_meaning.specs.Bodies.{WovenItems}
use Rattle.msc_meaning.specs.FarEnds.{GateMap}
use Rattle.msc_meaning.specs.InnerEvents.{GateEnd}
use Rattle.msc_meaning.specs.Tables.{Table}
use Rattle.expansion_tree.specs.Expansions.{Event, Tied}
use Rattle.expanded_charts.specs.Expanding as tree
use Rattle.expanded_charts.specs.Expanding.{Expanded, ExpandedParts, Shown, in_row, aside, one_of, or_nothing, exception, turns, tied, past, past_shown, numbers_with, pairs_between, tied_pairs, expand_charts}
use Rattle.node_ranks.specs.NamedCharts.{IsNestedTo}
use Rattle.node_ranks.proofs.Families.{Family, PartsFamily, IsKept, entry_kept, walks_kept}
use Rattle.node_ranks.proofs.Moved.{moved, moved_pair, moved_tag, moved_shown, moved_part, moved_parts}

-- ---- what is shown, and what is tied

module _ (d : ℕ) where
  numbers_moved : (a : Tag) (sh : Shown) → numbers_with a (moved_shown d sh) ≡ map (λ j. d + j) (numbers_with a sh)
  numbers_moved a [] = refl
  numbers_moved a (p ∷ sh) = by (is_same_tag p.1 a) (numbers_moved a sh)
    where
      by : (c : Bool) → numbers_with a (moved_shown d sh) ≡ map (λ j. d + j) (numbers_with a sh)
          → map (λ (p : ℕ × Tag). p.0) (if c then moved_tag d p ∷ filter (λ (p : ℕ × Tag). is_same_tag p.1 a) (moved_shown d sh) else filter (λ (p : ℕ × Tag). is_same_tag p.1 a) (moved_shown d sh))
          ≡ map (λ j. d + j) (map (λ (p : ℕ × Tag). p.0) (if c then p ∷ filter (λ (p : ℕ × Tag). is_same_tag p.1 a) sh else filter (λ (p : ℕ × Tag). is_same_tag p.1 a) sh))
      by true h = ap (λ l. (d + p.0) ∷ l) h
      by false h = h

  with_moved : (m : ℕ) (ns : List ℕ) → map (λ n. record { first = d + m; second = n }) (map (λ j. d + j) ns) ≡ map (moved_pair d) (map (λ n. record { first = m; second = n }) ns)
  with_moved m [] = refl
  with_moved m (n ∷ ns) = ap (λ l. record { first = d + m; second = d + n } ∷ l) (with_moved m ns)

  both : {A B : Type 0} (f : A → B) (a b : List B) (k l : List A) → a ≡ map f k → b ≡ map f l → (a ++ b) ≡ map f (k ++ l)
  both f a b k l h i = ap (λ x. x ++ b) h ∙ (ap (λ x. map f k ++ x) i ∙ sym (map-append f k l))

  between_moved : (ms ns : List ℕ) → pairs_between (map (λ j. d + j) ms) (map (λ j. d + j) ns) ≡ map (moved_pair d) (pairs_between ms ns)
  between_moved [] ns = refl
  between_moved (m ∷ ms) ns = both (moved_pair d) (map (λ n. record { first = d + m; second = n }) (map (λ j. d + j) ns)) (pairs_between (map (λ j. d + j) ms) (map (λ j. d + j) ns)) (map (λ n. record { first = m; second = n }) ns) (pairs_between ms ns)
      (with_moved m ns) (between_moved ms ns)

  tied_moved : (sh : Shown) (ts : List (Tag × Tag)) → tied_pairs (moved_shown d sh) ts ≡ map (moved_pair d) (tied_pairs sh ts)
  tied_moved sh [] = refl
  tied_moved sh (t ∷ ts) = both (moved_pair d) (pairs_between (numbers_with t.0 (moved_shown d sh)) (numbers_with t.1 (moved_shown d sh))) (tied_pairs (moved_shown d sh) ts) (pairs_between (numbers_with t.0 sh) (numbers_with t.1 sh)) (tied_pairs sh ts)
      (ap (λ l. pairs_between l (numbers_with t.1 (moved_shown d sh))) (numbers_moved t.0 sh) ∙ (ap (λ l. pairs_between (map (λ j. d + j) (numbers_with t.0 sh)) l) (numbers_moved t.1 sh) ∙ between_moved (numbers_with t.0 sh) (numbers_with t.1 sh)))
      (tied_moved sh ts)

  tags_moved : (n : ℕ) (as_ : List Tag) → map (λ a. (d + n, a)) as_ ≡ map (moved_tag d) (map (λ a. (n, a)) as_)
  tags_moved n [] = refl
  tags_moved n (a ∷ as_) = ap (λ l. (d + n, a) ∷ l) (tags_moved n as_)

  past_moved : (f : Tag → List Tag) (sh : Shown) → past_shown f (moved_shown d sh) ≡ moved_shown d (past_shown f sh)
  past_moved f [] = refl
  past_moved f (p ∷ sh) = both (moved_tag d) (map (λ a. (d + p.0, a)) (f p.1)) (past_shown f (moved_shown d sh)) (map (λ a. (p.0, a)) (f p.1)) (past_shown f sh) (tags_moved p.0 (f p.1)) (past_moved f sh)

-- ---- parts

-- from each first number on it is the one from another with greater numbers
abbrev pub IsMoved : Family → Family → Type 0
IsMoved e e' = (d n : ℕ) → e (d + n) ≡ moved_part d (e n)

abbrev AreMoved : PartsFamily → PartsFamily → Type 0
AreMoved l l' = (d n : ℕ) → l (d + n) ≡ moved_parts d (l n)

put_moved : (d : ℕ) (e : Expanded) (l : ExpandedParts) → tree.put (moved_part d e) (moved_parts d l) ≡ moved_parts d (tree.put e l)
put_moved d e l = ap (λ sh. record { parts = (moved_parts d (tree.put e l)).parts; shown = sh; next = d + l.next }) (sym (map-append (moved_tag d) e.shown l.shown))

moved_kept : IsKept IsMoved AreMoved
moved_kept = record {
  nothing = λ d n. refl;
  then = λ e e' l l' h i d n. ap (λ x. tree.then x l) (h d n) ∙ (ap (λ y. tree.put (moved_part d (e n)) y) (i d (e n).next) ∙ put_moved d (e n) (l (e n).next));
  in_row = λ l l' h d n. ap in_row (h d n);
  aside = λ l l' h d n. ap aside (h d n);
  one_of = λ l l' h d n. ap one_of (h d n);
  or_nothing = λ e e' h d n. ap or_nothing (h d n);
  exception = λ e e' h d n. ap exception (h d n);
  turns = λ lower upper e e' h d n. ap (turns (d + n) lower upper) (h d n);
  tied = λ ts e e' h d n. ap (tied ts) (h d n) ∙ ap (λ ps. record { part = Tied (moved d (e n).part) ps; shown = moved_shown d (e n).shown; next = d + (e n).next }) (tied_moved d (e n).shown ts);
  past = λ f e e' h d n. ap (past f) (h d n) ∙ ap (λ sh. record { part = moved d (e n).part; shown = sh; next = d + (e n).next }) (past_moved d f (e n).shown);
  event = λ h d n. ap (λ sh. record { part = Event (record { number = d + n; happening = h }); shown = sh; next = suc (d + n) }) (tags_moved d n h.tags)
      ∙ ap (λ j. record { part = Event (record { number = d + n; happening = h }); shown = moved_shown d (tree.event n h).shown; next = j }) (let e : suc (d + n) ≡ d + suc n = omega arith in e);
}

walk_moved : (g : Shape) (l l' : PartsFamily) → AreMoved l l' → IsMoved (λ n. tree.walk n g (l (suc n))) (λ n. tree.walk n g (l' (suc n)))
walk_moved g l l' h d n = let e : suc (d + n) ≡ d + suc n = omega arith in ap (λ j. tree.walk (d + n) g (l j)) e ∙ ap (tree.walk (d + n) g) (h d (suc n))

pub charts_moved : (ends_of : WovenItems → List GateEnd) (table : Table) (depth : ℕ) (name : List ℕ) (gates : GateMap) → IsNestedTo table depth name → IsMoved (expand_charts ends_of table depth name gates) (expand_charts ends_of table depth name gates)
charts_moved ends_of table zero name gates w = absurd w
charts_moved ends_of table (suc depth) name gates w =
    entry_kept IsMoved AreMoved moved_kept ends_of (expand_charts ends_of table depth) (expand_charts ends_of table depth) (IsNestedTo table depth) (charts_moved ends_of table depth)
    (walks_kept IsMoved AreMoved moved_kept ends_of (expand_charts ends_of table depth) (expand_charts ends_of table depth) (IsNestedTo table depth) (charts_moved ends_of table depth) walk_moved) table name gates w
