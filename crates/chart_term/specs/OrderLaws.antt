-- The order of terms is total: it is that of their keys, trees of numbers that are compared from the left.
use Rattle.std.proofs.Common.{ap, ap₂, arith, sym, ◌∙◌, inl, inr}
use Rattle.std.proofs.lemmas.Bool.{le-ltb, eq-eqb}
use Rattle.std.proofs.lemmas.Cmp.{nat_cmp_total}
use Rattle.std.specs.Cmp.{IsTotalOrder}
use Rattle.std.specs.Ordering.{nat_cmp, ordering_then, ordering_reverse}
use Rattle.std.specs.Prelude.{ℕ, List, [], ◌∷◌, Option, Some, None, ◌≡◌, ◌⊎◌, refl}
use Rattle.std.specs.declared.cmp.Ordering.{Ordering}
use Rattle.std.specs.declared.cmp.Ordering.TheVariants.{Less, Equal, Greater}
use Rattle.bit_sets.specs.Blocks.{set_cmp}
use Rattle.msc_base.specs.Patterns.{seq, par}
use Rattle.hmsc_graph.specs.Graphs.{Spot, Start, At, Goal, To, End, Any}
use Rattle.term_facts.proofs.Listing.{both_equal, number_equal, set_equal}
use Rattle.chart_term.specs.Order.{maybe_cmp, event_cmp, pair_cmp, pairs_cmp, spot_cmp, goal_cmp, numbers_code, code_cmp, tree_cmp, shape_cmp, trees_cmp, row_cmp, TermsAreOrdered}
use Rattle.chart_term.specs.NormalForms.{numbers}
use Rattle.chart_term.specs.Terms.{TermEvent, Tree, Nil, Event, Join, Choice, Tied, Loop, Walk, Trees, none, more, Row, ends, gap, turn}

-- a key: a tree of numbers
pub data Key : Type 0 where
  Empty : Key
  Num : ℕ → Key
  Both : Key → Key → Key

abbrev pub key_cmp : Key → Key → Ordering
key_cmp Empty Empty = Equal
key_cmp Empty (Num n) = Less
key_cmp Empty (Both c d) = Less
key_cmp (Num m) Empty = Greater
key_cmp (Num m) (Num n) = nat_cmp m n
key_cmp (Num m) (Both c d) = Less
key_cmp (Both a b) Empty = Greater
key_cmp (Both a b) (Num n) = Greater
key_cmp (Both a b) (Both c d) = ordering_then (key_cmp a c) (key_cmp b d)

number_itself : (n : ℕ) → nat_cmp n n ≡ Equal
number_itself n = rw (le-ltb n n (omega arith), eq-eqb n n refl)

key_itself : (a : Key) → key_cmp a a ≡ Equal
key_itself Empty = refl
key_itself (Num n) = number_itself n
key_itself (Both a b) = ap (λ o. ordering_then o (key_cmp b b)) (key_itself a) ∙ key_itself b

key_equal : (a b : Key) → key_cmp a b ≡ Equal → a ≡ b
key_equal Empty Empty h = refl
key_equal Empty (Num n) h = cc
key_equal Empty (Both c d) h = cc
key_equal (Num m) Empty h = cc
key_equal (Num m) (Num n) h = ap Num (number_equal m n h)
key_equal (Num m) (Both c d) h = cc
key_equal (Both a b) Empty h = cc
key_equal (Both a b) (Num n) h = cc
key_equal (Both a b) (Both c d) h = let (p, q) = both_equal (key_cmp a c) (key_cmp b d) h in λ k. Both (key_equal a c p k) (key_equal b d q k)

then_turned : (p q : Ordering) → ordering_then (ordering_reverse p) (ordering_reverse q) ≡ ordering_reverse (ordering_then p q)
then_turned Less q = refl
then_turned Equal q = refl
then_turned Greater q = refl

key_turned : (a b : Key) → key_cmp a b ≡ ordering_reverse (key_cmp b a)
key_turned Empty Empty = refl
key_turned Empty (Num n) = refl
key_turned Empty (Both c d) = refl
key_turned (Num m) Empty = refl
key_turned (Num m) (Num n) = nat_cmp_total.antisymm m n
key_turned (Num m) (Both c d) = refl
key_turned (Both a b) Empty = refl
key_turned (Both a b) (Num n) = refl
key_turned (Both a b) (Both c d) = ap₂ ordering_then (key_turned a c) (key_turned b d) ∙ then_turned (key_cmp c a) (key_cmp d b)

-- the first is less, or they are equal and the second is less
less_by : (p q : Ordering) → ordering_then p q ≡ Less → (p ≡ Less) ⊎ ((p ≡ Equal) × (q ≡ Less))
less_by Less q h = inl refl
less_by Equal q h = inr (refl, h)
less_by Greater q h = cc

key_less : (a b c : Key) → key_cmp a b ≡ Less → key_cmp b c ≡ Less → key_cmp a c ≡ Less
key_less Empty b Empty h k = absurd (nothing_before b k)
  where
    nothing_before : (b : Key) → key_cmp b Empty ≡ Less → ⊥
    nothing_before Empty k = cc
    nothing_before (Num n) k = cc
    nothing_before (Both c d) k = cc
key_less Empty b (Num n) h k = refl
key_less Empty b (Both c d) h k = refl
key_less (Num m) Empty c h k = cc
key_less (Num m) (Num n) Empty h k = cc
key_less (Num m) (Num n) (Num l) h k = nat_cmp_total.trans m n l h k
key_less (Num m) (Num n) (Both c d) h k = refl
key_less (Num m) (Both c d) Empty h k = cc
key_less (Num m) (Both c d) (Num l) h k = cc
key_less (Num m) (Both c d) (Both e f) h k = refl
key_less (Both a b) Empty c h k = cc
key_less (Both a b) (Num n) c h k = cc
key_less (Both a b) (Both c d) Empty h k = cc
key_less (Both a b) (Both c d) (Num n) h k = cc
key_less (Both a b) (Both c d) (Both e f) h k =
    elim (less_by (key_cmp a c) (key_cmp b d) h) [
      | inl p ↦ elim (less_by (key_cmp c e) (key_cmp d f) k) [
        | inl q ↦ ap (λ o. ordering_then o (key_cmp b f)) (key_less a c e p q)
        | inr q ↦ ap (λ o. ordering_then o (key_cmp b f)) (ap (λ z. key_cmp a z) (sym (key_equal c e q.0)) ∙ p)
      ]
      | inr p ↦ elim (less_by (key_cmp c e) (key_cmp d f) k) [
        | inl q ↦ ap (λ o. ordering_then o (key_cmp b f)) (ap (λ z. key_cmp z e) (key_equal a c p.0) ∙ q)
        | inr q ↦ ap (λ o. ordering_then o (key_cmp b f)) (ap (λ z. key_cmp z e) (key_equal a c p.0) ∙ q.0) ∙ key_less b d f p.1 q.1
      ]
    ]

abbrev maybe_key : Option ℕ → Key
maybe_key None = Empty
maybe_key (Some n) = Num n

maybe_by_key : (a b : Option ℕ) → maybe_cmp a b ≡ key_cmp (maybe_key a) (maybe_key b)
maybe_by_key None None = refl
maybe_by_key None (Some n) = refl
maybe_by_key (Some m) None = refl
maybe_by_key (Some m) (Some n) = refl

maybe_equal : (a b : Option ℕ) → maybe_cmp a b ≡ Equal → a ≡ b
maybe_equal None None h = refl
maybe_equal None (Some n) h = cc
maybe_equal (Some m) None h = cc
maybe_equal (Some m) (Some n) h = ap Some (number_equal m n h)

abbrev event_key : TermEvent → Key
event_key e = Both (Num e.number) (Both (Num e.at) (Both (maybe_key e.also) (Num e.label)))

event_by_key : (e f : TermEvent) → event_cmp e f ≡ key_cmp (event_key e) (event_key f)
event_by_key e f = ap (λ o. ordering_then (nat_cmp e.number f.number) (ordering_then (nat_cmp e.at f.at) (ordering_then o (nat_cmp e.label f.label)))) (maybe_by_key e.also f.also)

event_equal : (e f : TermEvent) → event_cmp e f ≡ Equal → e ≡ f
event_equal e f h =
    let (p, rest) = both_equal (nat_cmp e.number f.number) (ordering_then (nat_cmp e.at f.at) (ordering_then (maybe_cmp e.also f.also) (nat_cmp e.label f.label))) h in
    let (q, more_) = both_equal (nat_cmp e.at f.at) (ordering_then (maybe_cmp e.also f.also) (nat_cmp e.label f.label)) rest in
    let (r, s) = both_equal (maybe_cmp e.also f.also) (nat_cmp e.label f.label) more_ in
    λ k. record { number = number_equal e.number f.number p k; at = number_equal e.at f.at q k; also = maybe_equal e.also f.also r k; label = number_equal e.label f.label s k }

abbrev pairs_key : List (ℕ × ℕ) → Key
pairs_key [] = Empty
pairs_key (p ∷ q) = Both (Both (Num p.0) (Num p.1)) (pairs_key q)

pairs_by_key : (p q : List (ℕ × ℕ)) → pairs_cmp p q ≡ key_cmp (pairs_key p) (pairs_key q)
pairs_by_key [] [] = refl
pairs_by_key [] (r ∷ s) = refl
pairs_by_key (p ∷ q) [] = refl
pairs_by_key (p ∷ q) (r ∷ s) = ap (ordering_then (pair_cmp p r)) (pairs_by_key q s)

pairs_equal : (p q : List (ℕ × ℕ)) → pairs_cmp p q ≡ Equal → p ≡ q
pairs_equal [] [] h = refl
pairs_equal [] (r ∷ s) h = cc
pairs_equal (p ∷ q) [] h = cc
pairs_equal (p ∷ q) (r ∷ s) h =
    let (first, rest) = both_equal (pair_cmp p r) (pairs_cmp q s) h in
    let (u, v) = both_equal (nat_cmp p.0 r.0) (nat_cmp p.1 r.1) first in
    λ k. (number_equal p.0 r.0 u k, number_equal p.1 r.1 v k) ∷ pairs_equal q s rest k

-- a set that ends comes later
abbrev set_key : List ℕ → Key
set_key [] = Both (Num 0) Empty
set_key (x ∷ xs) = Both Empty (Both (Num x) (set_key xs))

set_by_key : (c d : List ℕ) → set_cmp c d ≡ key_cmp (set_key c) (set_key d)
set_by_key [] [] = refl
set_by_key [] (y ∷ ys) = refl
set_by_key (x ∷ xs) [] = refl
set_by_key (x ∷ xs) (y ∷ ys) = ap (ordering_then (nat_cmp x y)) (set_by_key xs ys)

abbrev spot_key : Spot → Key
spot_key Start = Empty
spot_key (At n) = Num n

spot_by_key : (s t : Spot) → spot_cmp s t ≡ key_cmp (spot_key s) (spot_key t)
spot_by_key Start Start = refl
spot_by_key Start (At n) = refl
spot_by_key (At m) Start = refl
spot_by_key (At m) (At n) = refl

spot_equal : (s t : Spot) → spot_cmp s t ≡ Equal → s ≡ t
spot_equal Start Start h = refl
spot_equal Start (At n) h = cc
spot_equal (At m) Start h = cc
spot_equal (At m) (At n) h = ap At (number_equal m n h)

abbrev goal_key : Goal → Key
goal_key (To n) = Num n
goal_key End = Both Empty Empty
goal_key Any = Both (Num 0) Empty

goal_by_key : (s t : Goal) → goal_cmp s t ≡ key_cmp (goal_key s) (goal_key t)
goal_by_key (To m) (To n) = refl
goal_by_key (To m) End = refl
goal_by_key (To m) Any = refl
goal_by_key End (To n) = refl
goal_by_key End End = refl
goal_by_key End Any = refl
goal_by_key Any (To n) = refl
goal_by_key Any End = refl
goal_by_key Any Any = refl

goal_equal : (s t : Goal) → goal_cmp s t ≡ Equal → s ≡ t
goal_equal (To m) (To n) h = ap To (number_equal m n h)
goal_equal (To m) End h = cc
goal_equal (To m) Any h = cc
goal_equal End (To n) h = cc
goal_equal End End h = refl
goal_equal End Any h = cc
goal_equal Any (To n) h = cc
goal_equal Any End h = cc
goal_equal Any Any h = refl

abbrev mutual
  pub shape_key : Tree → Key
  shape_key Nil = Both (Num 0) (Empty)
  shape_key (Event a0) = Both (Num 1) (event_key a0)
  shape_key (Join seq a0) = Both (Num 2) (trees_key a0)
  shape_key (Join par a0) = Both (Num 3) (trees_key a0)
  shape_key (Choice a0) = Both (Num 4) (trees_key a0)
  shape_key (Tied a0 a1) = Both (Num 5) (Both (pairs_key a1) (Both (Num (numbers_code (numbers a0))) (shape_key a0)))
  shape_key (Loop a0 a1 a2 a3) = Both (Num 6) (Both (Both (Num (numbers_code (numbers a0))) (shape_key a0)) (Both (Num a1) (Both (maybe_key a2) (row_key a3))))
  shape_key (Walk a0 a1 a2 a3) = Both (Num 7) (Both (Num a0) (Both (spot_key a1) (Both (goal_key a2) (set_key a3))))

  pub trees_key : Trees → Key
  trees_key none = Empty
  trees_key (more x xs) = Both (Both (Num (numbers_code (numbers x))) (shape_key x)) (trees_key xs)

  pub row_key : Row → Key
  row_key ends = Empty
  row_key (gap c r) = Both (Num 0) (Both (set_key c) (row_key r))
  row_key (turn x r) = Both (Num 1) (Both (Both (Num (numbers_code (numbers x))) (shape_key x)) (row_key r))

abbrev pub tree_key : Tree → Key
tree_key x = Both (Num (numbers_code (numbers x))) (shape_key x)

by_code : (x y : Tree) → shape_cmp x y ≡ key_cmp (shape_key x) (shape_key y) → tree_cmp x y ≡ key_cmp (tree_key x) (tree_key y)
by_code x y e = ap (ordering_then (code_cmp x y)) e

shapes_equal : (x y : Tree) → tree_cmp x y ≡ Equal → shape_cmp x y ≡ Equal
shapes_equal x y h = (both_equal (code_cmp x y) (shape_cmp x y) h).1

mutual
  shape_by_key : (x y : Tree) → shape_cmp x y ≡ key_cmp (shape_key x) (shape_key y)
  shape_by_key Nil Nil = refl
  shape_by_key Nil (Event b0) = refl
  shape_by_key Nil (Join seq b0) = refl
  shape_by_key Nil (Join par b0) = refl
  shape_by_key Nil (Choice b0) = refl
  shape_by_key Nil (Tied b0 b1) = refl
  shape_by_key Nil (Loop b0 b1 b2 b3) = refl
  shape_by_key Nil (Walk b0 b1 b2 b3) = refl
  shape_by_key (Event a0) Nil = refl
  shape_by_key (Event a0) (Event b0) = event_by_key a0 b0
  shape_by_key (Event a0) (Join seq b0) = refl
  shape_by_key (Event a0) (Join par b0) = refl
  shape_by_key (Event a0) (Choice b0) = refl
  shape_by_key (Event a0) (Tied b0 b1) = refl
  shape_by_key (Event a0) (Loop b0 b1 b2 b3) = refl
  shape_by_key (Event a0) (Walk b0 b1 b2 b3) = refl
  shape_by_key (Join seq a0) Nil = refl
  shape_by_key (Join seq a0) (Event b0) = refl
  shape_by_key (Join seq a0) (Join seq b0) = trees_by_key a0 b0
  shape_by_key (Join seq a0) (Join par b0) = refl
  shape_by_key (Join seq a0) (Choice b0) = refl
  shape_by_key (Join seq a0) (Tied b0 b1) = refl
  shape_by_key (Join seq a0) (Loop b0 b1 b2 b3) = refl
  shape_by_key (Join seq a0) (Walk b0 b1 b2 b3) = refl
  shape_by_key (Join par a0) Nil = refl
  shape_by_key (Join par a0) (Event b0) = refl
  shape_by_key (Join par a0) (Join seq b0) = refl
  shape_by_key (Join par a0) (Join par b0) = trees_by_key a0 b0
  shape_by_key (Join par a0) (Choice b0) = refl
  shape_by_key (Join par a0) (Tied b0 b1) = refl
  shape_by_key (Join par a0) (Loop b0 b1 b2 b3) = refl
  shape_by_key (Join par a0) (Walk b0 b1 b2 b3) = refl
  shape_by_key (Choice a0) Nil = refl
  shape_by_key (Choice a0) (Event b0) = refl
  shape_by_key (Choice a0) (Join seq b0) = refl
  shape_by_key (Choice a0) (Join par b0) = refl
  shape_by_key (Choice a0) (Choice b0) = trees_by_key a0 b0
  shape_by_key (Choice a0) (Tied b0 b1) = refl
  shape_by_key (Choice a0) (Loop b0 b1 b2 b3) = refl
  shape_by_key (Choice a0) (Walk b0 b1 b2 b3) = refl
  shape_by_key (Tied a0 a1) Nil = refl
  shape_by_key (Tied a0 a1) (Event b0) = refl
  shape_by_key (Tied a0 a1) (Join seq b0) = refl
  shape_by_key (Tied a0 a1) (Join par b0) = refl
  shape_by_key (Tied a0 a1) (Choice b0) = refl
  shape_by_key (Tied a0 a1) (Tied b0 b1) = ap₂ ordering_then (pairs_by_key a1 b1) (by_code a0 b0 (shape_by_key a0 b0))
  shape_by_key (Tied a0 a1) (Loop b0 b1 b2 b3) = refl
  shape_by_key (Tied a0 a1) (Walk b0 b1 b2 b3) = refl
  shape_by_key (Loop a0 a1 a2 a3) Nil = refl
  shape_by_key (Loop a0 a1 a2 a3) (Event b0) = refl
  shape_by_key (Loop a0 a1 a2 a3) (Join seq b0) = refl
  shape_by_key (Loop a0 a1 a2 a3) (Join par b0) = refl
  shape_by_key (Loop a0 a1 a2 a3) (Choice b0) = refl
  shape_by_key (Loop a0 a1 a2 a3) (Tied b0 b1) = refl
  shape_by_key (Loop a0 a1 a2 a3) (Loop b0 b1 b2 b3) = ap₂ ordering_then (by_code a0 b0 (shape_by_key a0 b0)) (ap₂ ordering_then refl (ap₂ ordering_then (maybe_by_key a2 b2) (row_by_key a3 b3)))
  shape_by_key (Loop a0 a1 a2 a3) (Walk b0 b1 b2 b3) = refl
  shape_by_key (Walk a0 a1 a2 a3) Nil = refl
  shape_by_key (Walk a0 a1 a2 a3) (Event b0) = refl
  shape_by_key (Walk a0 a1 a2 a3) (Join seq b0) = refl
  shape_by_key (Walk a0 a1 a2 a3) (Join par b0) = refl
  shape_by_key (Walk a0 a1 a2 a3) (Choice b0) = refl
  shape_by_key (Walk a0 a1 a2 a3) (Tied b0 b1) = refl
  shape_by_key (Walk a0 a1 a2 a3) (Loop b0 b1 b2 b3) = refl
  shape_by_key (Walk a0 a1 a2 a3) (Walk b0 b1 b2 b3) = ap₂ ordering_then refl (ap₂ ordering_then (spot_by_key a1 b1) (ap₂ ordering_then (goal_by_key a2 b2) (set_by_key a3 b3)))

  trees_by_key : (xs ys : Trees) → trees_cmp xs ys ≡ key_cmp (trees_key xs) (trees_key ys)
  trees_by_key none none = refl
  trees_by_key none (more y ys) = refl
  trees_by_key (more x xs) none = refl
  trees_by_key (more x xs) (more y ys) = ap₂ ordering_then (by_code x y (shape_by_key x y)) (trees_by_key xs ys)

  row_by_key : (r s : Row) → row_cmp r s ≡ key_cmp (row_key r) (row_key s)
  row_by_key ends ends = refl
  row_by_key ends (gap d s) = refl
  row_by_key ends (turn y s) = refl
  row_by_key (gap c r) ends = refl
  row_by_key (gap c r) (gap d s) = ap₂ ordering_then (set_by_key c d) (row_by_key r s)
  row_by_key (gap c r) (turn y s) = refl
  row_by_key (turn x r) ends = refl
  row_by_key (turn x r) (gap d s) = refl
  row_by_key (turn x r) (turn y s) = ap₂ ordering_then (by_code x y (shape_by_key x y)) (row_by_key r s)

mutual
  shape_equal : (x y : Tree) → shape_cmp x y ≡ Equal → x ≡ y
  shape_equal Nil Nil h = refl
  shape_equal Nil (Event b0) h = cc
  shape_equal Nil (Join seq b0) h = cc
  shape_equal Nil (Join par b0) h = cc
  shape_equal Nil (Choice b0) h = cc
  shape_equal Nil (Tied b0 b1) h = cc
  shape_equal Nil (Loop b0 b1 b2 b3) h = cc
  shape_equal Nil (Walk b0 b1 b2 b3) h = cc
  shape_equal (Event a0) Nil h = cc
  shape_equal (Event a0) (Event b0) h = λ k. Event (event_equal a0 b0 h k)
  shape_equal (Event a0) (Join seq b0) h = cc
  shape_equal (Event a0) (Join par b0) h = cc
  shape_equal (Event a0) (Choice b0) h = cc
  shape_equal (Event a0) (Tied b0 b1) h = cc
  shape_equal (Event a0) (Loop b0 b1 b2 b3) h = cc
  shape_equal (Event a0) (Walk b0 b1 b2 b3) h = cc
  shape_equal (Join seq a0) Nil h = cc
  shape_equal (Join seq a0) (Event b0) h = cc
  shape_equal (Join seq a0) (Join seq b0) h = λ k. Join seq (trees_equal a0 b0 h k)
  shape_equal (Join seq a0) (Join par b0) h = cc
  shape_equal (Join seq a0) (Choice b0) h = cc
  shape_equal (Join seq a0) (Tied b0 b1) h = cc
  shape_equal (Join seq a0) (Loop b0 b1 b2 b3) h = cc
  shape_equal (Join seq a0) (Walk b0 b1 b2 b3) h = cc
  shape_equal (Join par a0) Nil h = cc
  shape_equal (Join par a0) (Event b0) h = cc
  shape_equal (Join par a0) (Join seq b0) h = cc
  shape_equal (Join par a0) (Join par b0) h = λ k. Join par (trees_equal a0 b0 h k)
  shape_equal (Join par a0) (Choice b0) h = cc
  shape_equal (Join par a0) (Tied b0 b1) h = cc
  shape_equal (Join par a0) (Loop b0 b1 b2 b3) h = cc
  shape_equal (Join par a0) (Walk b0 b1 b2 b3) h = cc
  shape_equal (Choice a0) Nil h = cc
  shape_equal (Choice a0) (Event b0) h = cc
  shape_equal (Choice a0) (Join seq b0) h = cc
  shape_equal (Choice a0) (Join par b0) h = cc
  shape_equal (Choice a0) (Choice b0) h = λ k. Choice (trees_equal a0 b0 h k)
  shape_equal (Choice a0) (Tied b0 b1) h = cc
  shape_equal (Choice a0) (Loop b0 b1 b2 b3) h = cc
  shape_equal (Choice a0) (Walk b0 b1 b2 b3) h = cc
  shape_equal (Tied a0 a1) Nil h = cc
  shape_equal (Tied a0 a1) (Event b0) h = cc
  shape_equal (Tied a0 a1) (Join seq b0) h = cc
  shape_equal (Tied a0 a1) (Join par b0) h = cc
  shape_equal (Tied a0 a1) (Choice b0) h = cc
  shape_equal (Tied a0 a1) (Tied b0 b1) h = let (p0, q0) = both_equal (pairs_cmp a1 b1) (tree_cmp a0 b0) h in λ k. Tied (shape_equal a0 b0 (shapes_equal a0 b0 q0) k) (pairs_equal a1 b1 p0 k)
  shape_equal (Tied a0 a1) (Loop b0 b1 b2 b3) h = cc
  shape_equal (Tied a0 a1) (Walk b0 b1 b2 b3) h = cc
  shape_equal (Loop a0 a1 a2 a3) Nil h = cc
  shape_equal (Loop a0 a1 a2 a3) (Event b0) h = cc
  shape_equal (Loop a0 a1 a2 a3) (Join seq b0) h = cc
  shape_equal (Loop a0 a1 a2 a3) (Join par b0) h = cc
  shape_equal (Loop a0 a1 a2 a3) (Choice b0) h = cc
  shape_equal (Loop a0 a1 a2 a3) (Tied b0 b1) h = cc
  shape_equal (Loop a0 a1 a2 a3) (Loop b0 b1 b2 b3) h = let (p0, q0) = both_equal (tree_cmp a0 b0) (ordering_then (nat_cmp a1 b1) (ordering_then (maybe_cmp a2 b2) (row_cmp a3 b3))) h in let (p1, q1) = both_equal (nat_cmp a1 b1) (ordering_then (maybe_cmp a2 b2) (row_cmp a3 b3)) q0 in let (p2, q2) = both_equal (maybe_cmp a2 b2) (row_cmp a3 b3) q1 in λ k. Loop (shape_equal a0 b0 (shapes_equal a0 b0 p0) k) (number_equal a1 b1 p1 k) (maybe_equal a2 b2 p2 k) (row_equal a3 b3 q2 k)
  shape_equal (Loop a0 a1 a2 a3) (Walk b0 b1 b2 b3) h = cc
  shape_equal (Walk a0 a1 a2 a3) Nil h = cc
  shape_equal (Walk a0 a1 a2 a3) (Event b0) h = cc
  shape_equal (Walk a0 a1 a2 a3) (Join seq b0) h = cc
  shape_equal (Walk a0 a1 a2 a3) (Join par b0) h = cc
  shape_equal (Walk a0 a1 a2 a3) (Choice b0) h = cc
  shape_equal (Walk a0 a1 a2 a3) (Tied b0 b1) h = cc
  shape_equal (Walk a0 a1 a2 a3) (Loop b0 b1 b2 b3) h = cc
  shape_equal (Walk a0 a1 a2 a3) (Walk b0 b1 b2 b3) h = let (p0, q0) = both_equal (nat_cmp a0 b0) (ordering_then (spot_cmp a1 b1) (ordering_then (goal_cmp a2 b2) (set_cmp a3 b3))) h in let (p1, q1) = both_equal (spot_cmp a1 b1) (ordering_then (goal_cmp a2 b2) (set_cmp a3 b3)) q0 in let (p2, q2) = both_equal (goal_cmp a2 b2) (set_cmp a3 b3) q1 in λ k. Walk (number_equal a0 b0 p0 k) (spot_equal a1 b1 p1 k) (goal_equal a2 b2 p2 k) (set_equal a3 b3 q2 k)

  trees_equal : (xs ys : Trees) → trees_cmp xs ys ≡ Equal → xs ≡ ys
  trees_equal none none h = refl
  trees_equal none (more y ys) h = cc
  trees_equal (more x xs) none h = cc
  trees_equal (more x xs) (more y ys) h = let (p, q) = both_equal (tree_cmp x y) (trees_cmp xs ys) h in λ k. more (shape_equal x y (shapes_equal x y p) k) (trees_equal xs ys q k)

  row_equal : (r s : Row) → row_cmp r s ≡ Equal → r ≡ s
  row_equal ends ends h = refl
  row_equal ends (gap d s) h = cc
  row_equal ends (turn y s) h = cc
  row_equal (gap c r) ends h = cc
  row_equal (gap c r) (gap d s) h = let (p, q) = both_equal (set_cmp c d) (row_cmp r s) h in λ k. gap (set_equal c d p k) (row_equal r s q k)
  row_equal (gap c r) (turn y s) h = cc
  row_equal (turn x r) ends h = cc
  row_equal (turn x r) (gap d s) h = cc
  row_equal (turn x r) (turn y s) h = let (p, q) = both_equal (tree_cmp x y) (row_cmp r s) h in λ k. turn (shape_equal x y (shapes_equal x y p) k) (row_equal r s q k)

tree_by_key : (x y : Tree) → tree_cmp x y ≡ key_cmp (tree_key x) (tree_key y)
tree_by_key x y = by_code x y (shape_by_key x y)

pub tree_equal : (x y : Tree) → tree_cmp x y ≡ Equal → x ≡ y
tree_equal x y h = shape_equal x y (shapes_equal x y h)

pub tree_itself : (x : Tree) → tree_cmp x x ≡ Equal
tree_itself x = tree_by_key x x ∙ key_itself (tree_key x)

pub tree_total : IsTotalOrder tree_cmp
tree_total = record {
  antisymm = λ x y. tree_by_key x y ∙ key_turned (tree_key x) (tree_key y) ∙ ap ordering_reverse (sym (tree_by_key y x));
  trans = λ x y z p q. tree_by_key x z ∙ key_less (tree_key x) (tree_key y) (tree_key z) (sym (tree_by_key x y) ∙ p) (sym (tree_by_key y z) ∙ q);
  congr = λ x y z p. ap (λ w. tree_cmp w z) (tree_equal x y p);
}

pub terms_are_ordered : TermsAreOrdered
terms_are_ordered = record { total = tree_total; equal = tree_equal; itself = tree_itself }
