-- The weight of what the normalising constructors make.
use Rattle.std.specs.Prelude.{ℕ, ◌+◌, ◌≤◌, Bool, true, false, List, [], ◌∷◌, ◌++◌, ◌≡◌, Option, Some, length}
use Rattle.std.proofs.Common.{ap, arith, refl}
use Rattle.std.proofs.lemmas.Option.{same_Some}
use Rattle.msc_base.specs.Patterns.{Mode}
use Rattle.hmsc_graph.specs.Graphs.{Goal, To, End, Any, Start, reach}
use Rattle.chart_term.specs.Equality.{same_tree}
use Rattle.chart_term.specs.NormalForms.{only, join_all, open_choice, open_choices, distinct, without, unless_same, choice_form, choice_of, tie_of, kept_pairs, numbers, cut, walk_cut, walk_form, allowed, are_nil}
use Rattle.chart_term.specs.Tables.{Tables}
use Rattle.chart_term.specs.Terms.{Tree, Nil, Event, Join, Choice, Tied, Loop, Walk, Trees, none, more, items, trees, weight, weights, Gap}
use Rattle.chart_term.specs.Spreads.{touch}
use Rattle.term_laws.specs.FullSoundness.{fresh_loop}
use Rattle.term_laws.specs.Permission.{permit, permits_of}
use Rattle.term_laws.proofs.Ranking.{rank, list_rank, join_rank, turns_rank, tie_rank, kept_length, weight_rank, at_some}
use Rattle.sound_terms.specs.TableLaws.{weight_all, ConstructorsWeigh}

list_weight : (w : Tables) (xs : List Tree) → weight_all xs ≡ list_rank (permits_of w) (λ n. 0) xs
list_weight w [] = refl
list_weight w (x ∷ xs) = λ i. weight_rank x i + list_weight w xs i

join_weight : (m : Mode) (xs : List Tree) → weight (join_all m xs) ≤ 1 + weight_all xs
join_weight m xs = omega (arith, join_rank (permits_of []) (λ n. 0) m xs, weight_rank (join_all m xs), list_weight [] xs)

pub weights_items : (xs : Trees) → weight_all (items xs) ≡ weights xs
weights_items none = refl
weights_items (more x xs) = ap (λ n. weight x + n) (weights_items xs)

pub weights_trees : (xs : List Tree) → weights (trees xs) ≡ weight_all xs
weights_trees [] = refl
weights_trees (x ∷ xs) = ap (λ n. weight x + n) (weights_trees xs)

pub weight_app : (xs ys : List Tree) → weight_all (xs ++ ys) ≡ weight_all xs + weight_all ys
weight_app [] ys = omega arith
weight_app (x ∷ xs) ys = omega (arith, weight_app xs ys)

pub opened_weight : (x : Tree) → weight_all (open_choice x) ≤ weight x
opened_weight (Choice xs) = omega (arith, weights_items xs)
opened_weight Nil = omega arith
opened_weight (Event e) = omega arith
opened_weight (Join m xs) = omega arith
opened_weight (Tied x q) = omega arith
opened_weight (Loop x lo hi r) = omega arith
opened_weight (Walk n f t c) = omega arith

pub opened_weights : (xs : List Tree) → weight_all (open_choices xs) ≤ weight_all xs
opened_weights [] = omega arith
opened_weights (x ∷ xs) = omega (arith, weight_app (open_choice x) (open_choices xs), opened_weight x, opened_weights xs)

unless_weight : (b : Bool) (y : Tree) (ys : List Tree) → weight_all (unless_same b y ys) ≤ weight y + weight_all ys
unless_weight true y ys = omega arith
unless_weight false y ys = omega arith

without_weight : (x : Tree) (ys : List Tree) → weight_all (without x ys) ≤ weight_all ys
without_weight x [] = omega arith
without_weight x (y ∷ ys) = omega (arith, unless_weight (same_tree x y) y (without x ys), without_weight x ys)

pub distinct_weight : (xs : List Tree) → weight_all (distinct xs) ≤ weight_all xs
distinct_weight [] = omega arith
distinct_weight (x ∷ xs) = omega (arith, without_weight x (distinct xs), distinct_weight xs)

form_weight : (xs : List Tree) (y : Tree) → choice_form xs ≡ Some y → weight y ≤ 1 + weight_all xs
form_weight [] y e = absurd cc
form_weight (x ∷ []) y e = let a = ap weight (same_Some x y e) in omega (arith, a)
form_weight (x ∷ z ∷ xs) y e = let a = ap weight (same_Some (Choice (trees (x ∷ z ∷ xs))) y e) in omega (arith, a, weights_trees xs)

choice_weight : (xs : List Tree) (y : Tree) → choice_of xs ≡ Some y → weight y ≤ 1 + weight_all xs
choice_weight xs y e = omega (arith, form_weight (distinct (open_choices xs)) y e, distinct_weight (open_choices xs), opened_weights xs)

bound_weight : (x : Tree) (q : List (ℕ × ℕ)) → weight (tie_of x q) ≤ 1 + weight x + length q
bound_weight x q = omega (arith, tie_rank (permits_of []) (λ n. 0) x (kept_pairs (numbers x) q), kept_length (permits_of []) (λ n. 0) (numbers x) q, weight_rank (tie_of x q), weight_rank x)

loop_weight : (w : Tables) (x : Tree) (lo : ℕ) (hi : Option ℕ) (y : Tree) → fresh_loop w x lo hi ≡ Some y → weight y ≤ 2 + weight x
loop_weight w x lo hi y e =
    let a = at_some (permits_of w) (λ n. 0) (fresh_loop w x lo hi) y (1 + rank (λ n. 0) x + 1) e
    (turns_rank (permits_of w) (λ n. 0) (λ c. permit (permits_of w) (only c) x) (touch (permits_of w).spread x) x lo hi (Gap [] ∷ []) 1 (omega arith)) in
    omega (arith, a, weight_rank y, weight_rank x)

walk_weight : (a b : Bool) (x y : Tree) → weight x ≡ 1 → walk_form a b x ≡ Some y → weight y ≤ 1
walk_weight false b x y w e = absurd cc
walk_weight true true x y w e = let a = ap weight (same_Some Nil y e) in omega (arith, a)
walk_weight true false x y w e = let a = ap weight (same_Some x y e) in omega (arith, a, w)

trail_weight : (w : Tables) (n : ℕ) (t : Goal) (c : List ℕ) (y : Tree) → walk_cut (permits_of w) n Start t c ≡ Some y → weight y ≤ 1
trail_weight w n Any c y e = let a = ap weight (same_Some (Walk n Start Any c) y e) in omega (arith, a)
trail_weight w n (To m) c y e = walk_weight (reach ((permits_of w).net n) (allowed (permits_of w) n c) Start (To m)) (are_nil (permits_of w) n Start (To m) c (allowed (permits_of w) n c)) (Walk n Start (To m) c) y refl e
trail_weight w n End c y e = walk_weight (reach ((permits_of w).net n) (allowed (permits_of w) n c) Start End) (are_nil (permits_of w) n Start End c (allowed (permits_of w) n c)) (Walk n Start End c) y refl e

pub constructors_weigh : ConstructorsWeigh
constructors_weigh = record {
  join = join_weight;
  choice = choice_weight;
  tied = bound_weight;
  loop = loop_weight;
  walk = λ w n t y e. trail_weight w n t (cut ((permits_of w).spread n) []) y e;
}
