-- The test of equality is exact.
use Rattle.std.specs.Prelude.{ℕ, true, List, [], ◌∷◌, ◌≡◌, Option, Some, None, ◌&&◌, ◌==◌, refl}
use Rattle.std.proofs.Common.{ap, arith}
use Rattle.std.proofs.lemmas.Bool.Decides.{nat_tests}
use Rattle.std.proofs.lemmas.Bool.{and_from, and_parts, eqb-true}
use Rattle.msc_base.specs.Patterns.{Mode, seq, par}
use Rattle.hmsc_graph.specs.Graphs.{Spot, Start, At, Goal, To, End, Any}
use Rattle.chart_term.specs.Equality.{same_maybe, same_event, same_mode, same_spot, same_goal, same_numbers, same_pairs, same_tree, same_trees, same_row, SameTreeIsExact}
use Rattle.chart_term.specs.Terms.{TermEvent, Tree, Nil, Event, Join, Choice, Tied, Loop, Walk, Trees, none, more, Row, ends, gap, turn}

maybe_is : (a b : Option ℕ) → same_maybe a b ≡ true → a ≡ b
maybe_is None None h = refl
maybe_is (Some m) (Some n) h = ap Some (eqb-true m n h)
maybe_is None (Some n) h = cc
maybe_is (Some m) None h = cc

mode_is : (a b : Mode) → same_mode a b ≡ true → a ≡ b
mode_is seq seq h = refl
mode_is par par h = refl
mode_is seq par h = cc
mode_is par seq h = cc

spot_is : (a b : Spot) → same_spot a b ≡ true → a ≡ b
spot_is Start Start h = refl
spot_is (At m) (At n) h = ap At (eqb-true m n h)
spot_is Start (At n) h = cc
spot_is (At m) Start h = cc

goal_is : (a b : Goal) → same_goal a b ≡ true → a ≡ b
goal_is (To m) (To n) h = ap To (eqb-true m n h)
goal_is End End h = refl
goal_is Any Any h = refl
goal_is (To m) End h = cc
goal_is (To m) Any h = cc
goal_is End (To n) h = cc
goal_is End Any h = cc
goal_is Any (To n) h = cc
goal_is Any End h = cc

numbers_are : (c d : List ℕ) → same_numbers c d ≡ true → c ≡ d
numbers_are [] [] h = refl
numbers_are (m ∷ c) (n ∷ d) h = let (p, q) = and_parts (m == n) (same_numbers c d) h in λ i. eqb-true m n p i ∷ numbers_are c d q i
numbers_are [] (n ∷ d) h = cc
numbers_are (m ∷ c) [] h = cc

pairs_are : (c d : List (ℕ × ℕ)) → same_pairs c d ≡ true → c ≡ d
pairs_are [] [] h = refl
pairs_are (p ∷ q) (r ∷ s) h =
    let (a, b) = and_parts ((p.0 == r.0) && (p.1 == r.1)) (same_pairs q s) h in
    let (u, v) = and_parts (p.0 == r.0) (p.1 == r.1) a in
    λ i. (eqb-true p.0 r.0 u i, eqb-true p.1 r.1 v i) ∷ pairs_are q s b i
pairs_are [] (n ∷ d) h = cc
pairs_are (m ∷ c) [] h = cc

event_is : (e f : TermEvent) → same_event e f ≡ true → e ≡ f
event_is e f h =
    let (a, b) = and_parts ((e.number == f.number) && (e.at == f.at)) (same_maybe e.also f.also && (e.label == f.label)) h in
    let (u, v) = and_parts (e.number == f.number) (e.at == f.at) a in
    let (x, y) = and_parts (same_maybe e.also f.also) (e.label == f.label) b in
    λ i. record { number = eqb-true e.number f.number u i; at = eqb-true e.at f.at v i; also = maybe_is e.also f.also x i; label = eqb-true e.label f.label y i }

mutual
  -- terms that the test calls equal are equal
  pub tree_is : (x y : Tree) → same_tree x y ≡ true → x ≡ y
  tree_is Nil Nil h = refl
  tree_is (Event e) (Event f) h = ap Event (event_is e f h)
  tree_is (Join m xs) (Join n ys) h = let (p, q) = and_parts (same_mode m n) (same_trees xs ys) h in λ i. Join (mode_is m n p i) (trees_are xs ys q i)
  tree_is (Choice xs) (Choice ys) h = ap Choice (trees_are xs ys h)
  tree_is (Tied x q) (Tied y r) h = let (a, b) = and_parts (same_tree x y) (same_pairs q r) h in λ i. Tied (tree_is x y a i) (pairs_are q r b i)
  tree_is (Loop x lo hi r) (Loop y low high s) h =
      let (a, b) = and_parts (same_tree x y && (lo == low)) (same_maybe hi high && same_row r s) h in
      let (u, v) = and_parts (same_tree x y) (lo == low) a in
      let (p, q) = and_parts (same_maybe hi high) (same_row r s) b in
      λ i. Loop (tree_is x y u i) (eqb-true lo low v i) (maybe_is hi high p i) (row_is r s q i)
  tree_is (Walk n f t c) (Walk m g u d) h =
      let (a, b) = and_parts ((n == m) && same_spot f g) (same_goal t u && same_numbers c d) h in
      let (x, y) = and_parts (n == m) (same_spot f g) a in
      let (p, q) = and_parts (same_goal t u) (same_numbers c d) b in
      λ i. Walk (eqb-true n m x i) (spot_is f g y i) (goal_is t u p i) (numbers_are c d q i)
  tree_is x y h = cc

  trees_are : (xs ys : Trees) → same_trees xs ys ≡ true → xs ≡ ys
  trees_are none none h = refl
  trees_are (more x xs) (more y ys) h = let (p, q) = and_parts (same_tree x y) (same_trees xs ys) h in λ i. more (tree_is x y p i) (trees_are xs ys q i)
  trees_are none (more y ys) h = cc
  trees_are (more x xs) none h = cc

  row_is : (r s : Row) → same_row r s ≡ true → r ≡ s
  row_is ends ends h = refl
  row_is (gap c r) (gap d s) h = let (p, q) = and_parts (same_numbers c d) (same_row r s) h in λ i. gap (numbers_are c d p i) (row_is r s q i)
  row_is (turn x r) (turn y s) h = let (p, q) = and_parts (same_tree x y) (same_row r s) h in λ i. turn (tree_is x y p i) (row_is r s q i)
  row_is r s h = cc

number_self : (n : ℕ) → (n == n) ≡ true
number_self n = grind (arith, nat_tests)

maybe_self : (a : Option ℕ) → same_maybe a a ≡ true
maybe_self None = refl
maybe_self (Some n) = number_self n

mode_self : (m : Mode) → same_mode m m ≡ true
mode_self seq = refl
mode_self par = refl

spot_self : (a : Spot) → same_spot a a ≡ true
spot_self Start = refl
spot_self (At n) = number_self n

goal_self : (a : Goal) → same_goal a a ≡ true
goal_self (To n) = number_self n
goal_self End = refl
goal_self Any = refl

numbers_self : (c : List ℕ) → same_numbers c c ≡ true
numbers_self [] = refl
numbers_self (n ∷ c) = and_from (n == n) (same_numbers c c) (number_self n) (numbers_self c)

pairs_self : (q : List (ℕ × ℕ)) → same_pairs q q ≡ true
pairs_self [] = refl
pairs_self (p ∷ q) = and_from ((p.0 == p.0) && (p.1 == p.1)) (same_pairs q q) (and_from (p.0 == p.0) (p.1 == p.1) (number_self p.0) (number_self p.1)) (pairs_self q)

event_self : (e : TermEvent) → same_event e e ≡ true
event_self e =
    and_from ((e.number == e.number) && (e.at == e.at)) (same_maybe e.also e.also && (e.label == e.label)) (and_from (e.number == e.number) (e.at == e.at) (number_self e.number) (number_self e.at))
    (and_from (same_maybe e.also e.also) (e.label == e.label) (maybe_self e.also) (number_self e.label))

mutual
  tree_self : (x : Tree) → same_tree x x ≡ true
  tree_self Nil = refl
  tree_self (Event e) = event_self e
  tree_self (Join m xs) = and_from (same_mode m m) (same_trees xs xs) (mode_self m) (trees_self xs)
  tree_self (Choice xs) = trees_self xs
  tree_self (Tied x q) = and_from (same_tree x x) (same_pairs q q) (tree_self x) (pairs_self q)
  tree_self (Loop x lo hi r) =
      and_from (same_tree x x && (lo == lo)) (same_maybe hi hi && same_row r r) (and_from (same_tree x x) (lo == lo) (tree_self x) (number_self lo)) (and_from (same_maybe hi hi) (same_row r r) (maybe_self hi) (row_self r))
  tree_self (Walk n f t c) =
      and_from ((n == n) && same_spot f f) (same_goal t t && same_numbers c c) (and_from (n == n) (same_spot f f) (number_self n) (spot_self f)) (and_from (same_goal t t) (same_numbers c c) (goal_self t) (numbers_self c))

  trees_self : (xs : Trees) → same_trees xs xs ≡ true
  trees_self none = refl
  trees_self (more x xs) = and_from (same_tree x x) (same_trees xs xs) (tree_self x) (trees_self xs)

  row_self : (r : Row) → same_row r r ≡ true
  row_self ends = refl
  row_self (gap c r) = and_from (same_numbers c c) (same_row r r) (numbers_self c) (row_self r)
  row_self (turn x r) = and_from (same_tree x x) (same_row r r) (tree_self x) (row_self r)

pub same_tree_is_exact : SameTreeIsExact
same_tree_is_exact = record { sound = tree_is; whole = λ x y e. whole x y e }
  where
    whole : (x y : Tree) → x ≡ y → same_tree x y ≡ true
    whole x y e = rw e (tree_self y)
