-- Sets of node numbers in words.
use Rattle.std.proofs.Common.{ℕ, zero, suc, ◌+◌, ◌/◌, ◌%◌, ◌<◌, ◌≤◌, ◌≡◌, ◌↔◌, ◌⊎◌, inl, inr, List, [], ◌∷◌, get_or, replicate, Bool, true, false, cond, IsTrue, refl, sym, subst, arith, ap, ◌∙◌, nat_eq}
use Rattle.std.proofs.lemmas.Bool.{cases_eq, true≢false}
use Rattle.std.proofs.lemmas.Nat.Bits.{bit_at-zero}
use Rattle.std.specs.Int.{bit_at}
use Rattle.bit_sets.specs.Blocks.{has_bit, numbers_that, with_bit}
use Rattle.bit_sets.proofs.BitFacts.{has_bit-with_same, has_bit-with_other}
use Rattle.msc_base.specs.Lists.{IsIn}
use Rattle.bit_sets.specs.NodeSets.{NodeSetValue, numbers_in}

numbers_cases : (test : ℕ → Bool) (count from : ℕ) (b : Bool) → test from ≡ b → numbers_that test (suc count) from ≡ cond b (from ∷ numbers_that test count (suc from)) (numbers_that test count (suc from))
unfolding numbers_that
numbers_cases test count from b e = ap (λ c. cond c (from ∷ numbers_that test count (suc from)) (numbers_that test count (suc from))) e

numbers_zero : (test : ℕ → Bool) (from : ℕ) → numbers_that test zero from ≡ []
unfolding numbers_that
numbers_zero test from = refl

-- a number of the range that passes the test is there
numbers_have : (test : ℕ → Bool) (count from n : ℕ) → from ≤ n → n < from + count → test n ≡ true → IsIn n (numbers_that test count from)
numbers_have test zero from n low high e = absurd (omega arith)
numbers_have test (suc count) from n low high e = choose (test from) refl (λ l h. numbers_have test count (suc from) n l h e)
  where
    choose : (b : Bool) → test from ≡ b → (suc from ≤ n → n < suc from + count → IsIn n (numbers_that test count (suc from))) → IsIn n (numbers_that test (suc count) from)
    choose true is more = rw (numbers_cases test count from true is) (elim (cases_eq n from) [ inl same ↦ inl same | inr other ↦ inr (more (omega arith) (omega arith)) ])
    choose false is more = rw (numbers_cases test count from false is) (elim (cases_eq n from) [
      | inl same ↦ absurd (true≢false (sym e ∙ ap test same ∙ is))
      | inr other ↦ more (omega arith) (omega arith)
    ])

-- what is there is of the range, and passes the test
pub record Passes (test : ℕ → Bool) (count from n : ℕ) : Type 0 where
  pub low : from ≤ n
  pub high : n < from + count
  pub passes : test n ≡ true

numbers_pass : (test : ℕ → Bool) (count from n : ℕ) → IsIn n (numbers_that test count from) → Passes test count from n
numbers_pass test zero from n h = absurd (subst (λ l. IsIn n l) (numbers_zero test from) h)
numbers_pass test (suc count) from n h = choose (test from) refl (λ r. numbers_pass test count (suc from) n r)
  where
    later : Passes test count (suc from) n → Passes test (suc count) from n
    later p = record { low = omega (arith, p.low); high = omega (arith, p.high); passes = p.passes }

    first : test from ≡ true → IsIn n (from ∷ numbers_that test count (suc from)) → (IsIn n (numbers_that test count (suc from)) → Passes test count (suc from) n) → Passes test (suc count) from n
    first is (inl e) more = record { low = omega arith; high = omega arith; passes = ap test e ∙ is }
    first is (inr r) more = later (more r)

    choose : (b : Bool) → test from ≡ b → (IsIn n (numbers_that test count (suc from)) → Passes test count (suc from) n) → Passes test (suc count) from n
    choose true is more = first is (subst (λ l. IsIn n l) (numbers_cases test count from true is) h) more
    choose false is more = later (more (subst (λ l. IsIn n l) (numbers_cases test count from false is) h))

pub in_numbers : (size : ℕ) (words : List ℕ) (n : ℕ) → n < size → has_bit words n ≡ true → IsIn n (numbers_in size words)
in_numbers size words n below is = numbers_have (has_bit words) size 0 n (omega arith) (omega arith) is

pub in_numbers_is : (size : ℕ) (words : List ℕ) (n : ℕ) → IsIn n (numbers_in size words) → (n < size) × (has_bit words n ≡ true)
in_numbers_is size words n h = let p = numbers_pass (has_bit words) size 0 n h in (omega (arith, p.high), p.passes)

-- a set of these numbers
abbrev pub set_of : ℕ → List ℕ → NodeSetValue
set_of size words = record { size = size; nodes = numbers_in size words }

-- the test of a bit is the test of a member
pub has_is : (size : ℕ) (words : List ℕ) (n : ℕ) (b : Bool) (v : NodeSetValue) → set_of size words ≡ v → n < size → b ≡ has_bit words n → IsTrue b ↔ IsIn n v.nodes
has_is size words n b v view below is = (
  (λ h. subst (λ (w : NodeSetValue). IsIn n w.nodes) view (in_numbers size words n below (sym is ∙ h))),
  (λ h. is ∙ (in_numbers_is size words n (subst (λ (w : NodeSetValue). IsIn n w.nodes) (sym view) h)).1),
)

pub has_not : (size : ℕ) (words : List ℕ) (n : ℕ) (b : Bool) (v : NodeSetValue) → set_of size words ≡ v → size ≤ n → b ≡ false → IsTrue b ↔ IsIn n v.nodes
has_not size words n b v view above is = (
  (λ h. absurd (true≢false (sym h ∙ is))),
  (λ h. absurd (omega (arith, (in_numbers_is size words n (subst (λ (w : NodeSetValue). IsIn n w.nodes) (sym view) h)).0))),
)

-- no bits, no numbers
abbrev zeros : ℕ → List ℕ
zeros count = replicate count 0

get_zeros : (count i : ℕ) → get_or (zeros count) i 0 ≡ 0
get_zeros zero i = refl
get_zeros (suc count) zero = refl
get_zeros (suc count) (suc i) = get_zeros count i

pub no_numbers : (size count n : ℕ) → IsIn n (numbers_in size (replicate count 0)) → ⊥
unfolding has_bit
no_numbers size count n h =
    let zero_word : bit_at (get_or (replicate count 0) (n / 64) 0) (n % 64) ≡ 0 = ap (λ w. bit_at w (n % 64)) (get_zeros count (n / 64)) ∙ bit_at-zero (n % 64) in
    true≢false (sym (in_numbers_is size (replicate count 0) n h).1 ∙ ap (λ b. nat_eq b 1) zero_word)

-- one more bit, one more number
pub added : (size : ℕ) (words : List ℕ) (n m : ℕ) → n < size → IsIn m (numbers_in size (with_bit words n)) ↔ (IsIn m (numbers_in size words) ⊎ (m ≡ n))
added size words n m below = (there, back)
  where
    there : IsIn m (numbers_in size (with_bit words n)) → IsIn m (numbers_in size words) ⊎ (m ≡ n)
    there h = let p = in_numbers_is size (with_bit words n) m h in elim (cases_eq m n) [
      | inl e ↦ inr e
      | inr ne ↦ inl (in_numbers size words m p.0 (sym (has_bit-with_other words n m ne) ∙ p.1))
    ]

    back : IsIn m (numbers_in size words) ⊎ (m ≡ n) → IsIn m (numbers_in size (with_bit words n))
    back (inr e) = in_numbers size (with_bit words n) m (omega (arith, e)) (ap (has_bit (with_bit words n)) e ∙ has_bit-with_same words n)
    back (inl h) = let p = in_numbers_is size words m h in elim (cases_eq m n) [
      | inl e ↦ in_numbers size (with_bit words n) m p.0 (ap (has_bit (with_bit words n)) e ∙ has_bit-with_same words n)
      | inr ne ↦ in_numbers size (with_bit words n) m p.0 (has_bit-with_other words n m ne ∙ p.1)
    ]

pub added_set : (size : ℕ) (words after : List ℕ) (n m : ℕ) (v : NodeSetValue) → set_of size words ≡ v → n < v.size → after ≡ with_bit words n → IsIn m (numbers_in size after) ↔ (IsIn m v.nodes ⊎ (m ≡ n))
added_set size words after n m v view below written =
    let low : n < size = omega (arith, ap (λ (x : NodeSetValue). x.size) view) in
    let is_added = added size words n m low in
    subst (λ (x : NodeSetValue). IsIn m (numbers_in size after) ↔ (IsIn m x.nodes ⊎ (m ≡ n))) view
    (subst (λ (l : List ℕ). IsIn m (numbers_in size l) ↔ (IsIn m (numbers_in size words) ⊎ (m ≡ n))) (sym written) is_added)
