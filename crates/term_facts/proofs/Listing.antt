-- Lists compared item by item.
use Rattle.std.proofs.Common.{◌≡◌, ℕ, ◌+◌, ◌<◌, ◌≤◌, ◌⊎◌, inl, inr, suc, zero, List, [], ◌∷◌, refl, ap, ap₂, sym, ◌∙◌, arith, length, get_or, slice_get, Some, drop, add-one, true, false, not, nat_eq}
use Rattle.std.proofs.lemmas.Bool.{lt-ltb, le-ltb, eq-eqb, ne_eqb, cases_order}
use Rattle.std.specs.Ordering.{nat_cmp, ordering_then, ordering_index}
use Rattle.std.specs.declared.cmp.Ordering.{Ordering}
use Rattle.std.specs.declared.cmp.Ordering.TheVariants.{Less, Equal, Greater}
use Rattle.bit_sets.specs.Blocks.{set_cmp}
use Rattle.msc_base.specs.declared.label.Pair.{Pair}
use Rattle.term_facts.specs.PlainOrder.{pair_cmp, pairs_cmp, pair_of, pairs_of}

-- the order of lists
abbrev pub list_cmp : {A : Type 0} → (A → A → Ordering) → List A → List A → Ordering
list_cmp c [] [] = Equal
list_cmp c [] (y ∷ ys) = Less
list_cmp c (x ∷ xs) [] = Greater
list_cmp c (x ∷ xs) (y ∷ ys) = ordering_then (c x y) (list_cmp c xs ys)

abbrev pub held_cmp : Pair → Pair → Ordering
held_cmp p r = pair_cmp (pair_of p) (pair_of r)

pub pairs_by_list : (p q : List Pair) → list_cmp held_cmp p q ≡ pairs_cmp (pairs_of p) (pairs_of q)
pairs_by_list [] [] = refl
pairs_by_list [] (r ∷ s) = refl
pairs_by_list (p ∷ q) [] = refl
pairs_by_list (p ∷ q) (r ∷ s) = ap (ordering_then (held_cmp p r)) (pairs_by_list q s)

drop_next : {A : Type 0} (xs : List A) (i : ℕ) (x : A) → i < length xs → x ≡ get_or xs i x → drop i xs ≡ x ∷ drop (suc i) xs
drop_next [] i x lt e = absurd (omega arith)
drop_next (y ∷ ys) zero x lt e = ap (λ z. z ∷ ys) (sym e)
drop_next (y ∷ ys) (suc i) x lt e = drop_next ys i x (omega (arith, lt)) e

-- one more item is compared
pub list_cmp-next : {A : Type 0} (c : A → A → Ordering) (xs ys : List A) (i : ℕ) (x y : A) → i < length xs → i < length ys → x ≡ get_or xs i x → y ≡ get_or ys i y → list_cmp c (drop i xs) (drop i ys) ≡ ordering_then (c x y) (list_cmp c (drop (i + 1) xs) (drop (i + 1) ys))
list_cmp-next c xs ys i x y lt less e f = rw add-one (ap₂ (list_cmp c) (drop_next xs i x lt e) (drop_next ys i y less f))

same_step : (m n : ℕ) → nat_cmp m n ≡ nat_cmp (suc m) (suc n)
same_step m n = elim (cases_order m n) [
  | inl e ↦ rw (le-ltb m n (omega arith), eq-eqb m n e, le-ltb (suc m) (suc n) (omega arith), eq-eqb (suc m) (suc n) (omega arith)) refl
  | inr (inl less) ↦ rw (lt-ltb m n less, lt-ltb (suc m) (suc n) (omega arith)) refl
  | inr (inr later) ↦ rw (le-ltb m n (omega arith), ne_eqb m n (omega arith), le-ltb (suc m) (suc n) (omega arith), ne_eqb (suc m) (suc n) (omega arith)) refl
]

less_is : (m n : ℕ) → m < n → Less ≡ nat_cmp m n
less_is m n h = rw (lt-ltb m n h) refl

greater_is : (m n : ℕ) → n < m → Greater ≡ nat_cmp m n
greater_is m n h = rw (le-ltb m n (omega arith), ne_eqb m n (omega arith)) refl

-- one of the lists ends
pub list_cmp-end : {A : Type 0} (c : A → A → Ordering) (xs ys : List A) (i : ℕ) → i ≤ length xs → i ≤ length ys → (length xs ≤ i) ⊎ (length ys ≤ i) → list_cmp c (drop i xs) (drop i ys) ≡ nat_cmp (length xs) (length ys)
list_cmp-end c [] [] zero a b h = refl
list_cmp-end c [] (y ∷ ys) zero a b h = less_is 0 (suc (length ys)) (omega arith)
list_cmp-end c (x ∷ xs) [] zero a b h = greater_is (suc (length xs)) 0 (omega arith)
list_cmp-end c (x ∷ xs) (y ∷ ys) zero a b (inl h) = absurd (omega arith)
list_cmp-end c (x ∷ xs) (y ∷ ys) zero a b (inr h) = absurd (omega arith)
list_cmp-end c [] ys (suc i) a b h = absurd (omega arith)
list_cmp-end c (x ∷ xs) [] (suc i) a b h = absurd (omega arith)
list_cmp-end c (x ∷ xs) (y ∷ ys) (suc i) a b (inl h) = list_cmp-end c xs ys i (omega (arith, a)) (omega (arith, b)) (inl (omega (arith, h))) ∙ same_step (length xs) (length ys)
list_cmp-end c (x ∷ xs) (y ∷ ys) (suc i) a b (inr h) = list_cmp-end c xs ys i (omega (arith, a)) (omega (arith, b)) (inr (omega (arith, h))) ∙ same_step (length xs) (length ys)

-- the first difference decides
decides : (o r : Ordering) → not (nat_eq (ordering_index o) 1) ≡ true → o ≡ ordering_then o r
decides Less r h = refl
decides Equal r h = cc
decides Greater r h = refl

goes_on : (o r : Ordering) → not (nat_eq (ordering_index o) 1) ≡ false → ordering_then o r ≡ r
goes_on Less r h = cc
goes_on Equal r h = refl
goes_on Greater r h = cc

-- two items that differ decide
pub list_cmp-decided : {A : Type 0} (c : A → A → Ordering) (xs ys : List A) (i : ℕ) (x y : A) (o : Ordering) → i < length xs → i < length ys → x ≡ get_or xs i x → y ≡ get_or ys i y → o ≡ c x y → list_cmp c xs ys ≡ list_cmp c (drop i xs) (drop i ys) → not (nat_eq (ordering_index o) 1) ≡ true → o ≡ list_cmp c xs ys
list_cmp-decided c xs ys i x y o lt less e f is so h =
    decides o (list_cmp c (drop (i + 1) xs) (drop (i + 1) ys)) h ∙ ap (λ p. ordering_then p (list_cmp c (drop (i + 1) xs) (drop (i + 1) ys))) is ∙ sym (so ∙ list_cmp-next c xs ys i x y lt less e f)

-- two equal items don't
pub list_cmp-goes_on : {A : Type 0} (c : A → A → Ordering) (xs ys : List A) (i : ℕ) (x y : A) (o : Ordering) → i < length xs → i < length ys → x ≡ get_or xs i x → y ≡ get_or ys i y → o ≡ c x y → list_cmp c xs ys ≡ list_cmp c (drop i xs) (drop i ys) → not (nat_eq (ordering_index o) 1) ≡ false → list_cmp c xs ys ≡ list_cmp c (drop (i + 1) xs) (drop (i + 1) ys)
list_cmp-goes_on c xs ys i x y o lt less e f is so h =
    so ∙ list_cmp-next c xs ys i x y lt less e f ∙ ap (λ p. ordering_then p (list_cmp c (drop (i + 1) xs) (drop (i + 1) ys))) (sym is) ∙ goes_on o (list_cmp c (drop (i + 1) xs) (drop (i + 1) ys)) h

pub is_equal : (o : Ordering) → nat_eq (ordering_index o) 1 ≡ true → o ≡ Equal
is_equal Less h = cc
is_equal Equal h = refl
is_equal Greater h = cc

-- the item at a place
pub got_is : {A : Type 0} (ps : List A) (i : ℕ) (p : A) → slice_get ps i ≡ Some p → p ≡ get_or ps i p
got_is [] i p e = cc
got_is (q ∷ ps) zero p e = let same : q ≡ p = cc in sym same
got_is (q ∷ ps) (suc i) p e = got_is ps i p e

-- sets that compare as equal are equal
pub both_equal : (p q : Ordering) → ordering_then p q ≡ Equal → (p ≡ Equal) × (q ≡ Equal)
both_equal Equal q h = (refl, h)
both_equal Less q h = cc
both_equal Greater q h = cc

pub number_equal : (m n : ℕ) → nat_cmp m n ≡ Equal → m ≡ n
number_equal m n h = elim (cases_order m n) [
  | inl e ↦ e
  | inr (inl less) ↦ let is : nat_cmp m n ≡ Less = rw (lt-ltb m n less) in cc
  | inr (inr later) ↦ let is : nat_cmp m n ≡ Greater = rw (le-ltb m n (omega arith), ne_eqb m n (omega arith)) in cc
]

pub set_equal : (c d : List ℕ) → set_cmp c d ≡ Equal → c ≡ d
set_equal [] [] h = refl
set_equal [] (y ∷ ys) h = cc
set_equal (x ∷ xs) [] h = cc
set_equal (x ∷ xs) (y ∷ ys) h = let (p, q) = both_equal (nat_cmp x y) (set_cmp xs ys) h in λ k. number_equal x y p k ∷ set_equal xs ys q k

pub ruleset listing = (pairs_by_list)
