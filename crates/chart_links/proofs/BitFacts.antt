-- The numbers of sets, as words of bits: of none, of one more, and of two united.
use Rattle.std.proofs.Common.{◌≡◌, ◌↔◌, ◌⊎◌, inl, inr, ℕ, zero, suc, ◌/◌, ◌%◌, ◌<◌, ◌≤◌, max, min, nat_eq, Bool, true, false, ◌||◌, ◌&&◌, List, [], length, get_or, refl, ap, ap₂, sym, ◌∙◌, arith}
use Rattle.std.specs.Int.{bit_at}
use Rattle.std.specs.Int.Bits.{bit_and, bit_or, or_zero_r}
use Rattle.std.proofs.lemmas.Bool.{cases_eq, cases_lt, true≢false}
use Rattle.std.proofs.lemmas.List.{get_or_past}
use Rattle.std.proofs.lemmas.Nat.{and_le_l, and_le_r}
use Rattle.std.proofs.lemmas.Nat.Bits.{bit_at_and, bit_at_or, bit_at-lt}
use Rattle.bit_sets.specs.Blocks.{HasBitsOfBoth, has_bit, with_bit}
use Rattle.bit_sets.proofs.BitFacts.{has_bit-past, has_bit-with_other, has_bit-with_same}
use Rattle.bit_sets.proofs.WordFacts.{has_bit_is}
use Rattle.chart_links.specs.Sets.{HasBitsOfCommon}

-- no words have no bit
pub none_had : (n : ℕ) → has_bit [] n ≡ false
none_had n = has_bit-past [] n (omega arith)

-- one more number
pub had_with : (words : List ℕ) (at n : ℕ) → (has_bit (with_bit words at) n ≡ true) ↔ ((has_bit words n ≡ true) ⊎ (n ≡ at))
had_with words at n = (
  λ h. elim (cases_eq n at) [ inl e ↦ inr e | inr ne ↦ inl (sym (has_bit-with_other words at n ne) ∙ h) ],
  λ s. elim (cases_eq n at) [
    | inl e ↦ ap (has_bit (with_bit words at)) e ∙ has_bit-with_same words at
    | inr ne ↦ has_bit-with_other words at n ne ∙ elim s [ inl h ↦ h | inr e ↦ absurd (ne e) ]
  ],
)

either_one : (x y : ℕ) → x < 2 → y < 2 → nat_eq (max x y) 1 ≡ (nat_eq x 1 || nat_eq y 1)
either_one zero zero a b = refl
either_one zero (suc zero) a b = refl
either_one (suc zero) zero a b = refl
either_one (suc zero) (suc zero) a b = refl
either_one (suc (suc x)) y a b = absurd (omega arith)
either_one zero (suc (suc y)) a b = absurd (omega arith)
either_one (suc zero) (suc (suc y)) a b = absurd (omega arith)

-- the united words have the bits of both
pub had_either : (words others both : List ℕ) → HasBitsOfBoth words others both → (n : ℕ) → has_bit both n ≡ (has_bit words n || has_bit others n)
had_either words others both h n =
    has_bit_is both n ∙ ap (λ w. nat_eq (bit_at w (n % 64)) 1) (h.united (n / 64)) ∙ ap (λ b. nat_eq b 1) (bit_at_or (get_or words (n / 64) 0) (get_or others (n / 64) 0) (n % 64))
    ∙ either_one (bit_at (get_or words (n / 64) 0) (n % 64)) (bit_at (get_or others (n / 64) 0) (n % 64)) (bit_at-lt (get_or words (n / 64) 0) (n % 64)) (bit_at-lt (get_or others (n / 64) 0) (n % 64))
    ∙ sym (ap₂ (λ a b. a || b) (has_bit_is words n) (has_bit_is others n))

-- a test of two
pub or_true_is : (a b : Bool) → ((a || b) ≡ true) ↔ ((a ≡ true) ⊎ (b ≡ true))
or_true_is true b = (λ h. inl refl, λ s. refl)
or_true_is false b = (λ h. inr h, λ s. elim s [ inl e ↦ absurd (true≢false (sym e)) | inr h ↦ h ])

-- ---- the bits that two have in common

both_one : (x y : ℕ) → x < 2 → y < 2 → nat_eq (min x y) 1 ≡ (nat_eq x 1 && nat_eq y 1)
both_one zero zero a b = refl
both_one zero (suc zero) a b = refl
both_one (suc zero) zero a b = refl
both_one (suc zero) (suc zero) a b = refl
both_one (suc (suc x)) y a b = absurd (omega arith)
both_one zero (suc (suc y)) a b = absurd (omega arith)
both_one (suc zero) (suc (suc y)) a b = absurd (omega arith)

-- a word that stays, where one of the two has none
pub past_common : (words one other new : List ℕ) (k : ℕ) → min (length one) (length other) ≤ k → get_or new k 0 ≡ get_or words k 0 → get_or new k 0 ≡ bit_or (get_or words k 0) (bit_and (get_or one k 0) (get_or other k 0))
past_common words one other new k high same = same ∙ sym (ap (bit_or (get_or words k 0)) none ∙ or_zero_r (get_or words k 0))
  where
    none : bit_and (get_or one k 0) (get_or other k 0) ≡ 0
    none = elim (cases_lt k (length one)) [
      | inr le ↦ let past : get_or one k 0 ≡ 0 = get_or_past one k 0 le in omega (arith, past, and_le_l (get_or one k 0) (get_or other k 0))
      | inl lt ↦ let past : get_or other k 0 ≡ 0 = get_or_past other k 0 (omega (arith, high, lt)) in omega (arith, past, and_le_r (get_or one k 0) (get_or other k 0))
    ]

-- with the common bits of two
pub had_common : (words one other new : List ℕ) → HasBitsOfCommon words one other new → (n : ℕ) → has_bit new n ≡ (has_bit words n || (has_bit one n && has_bit other n))
had_common words one other new h n =
    has_bit_is new n ∙ ap (λ w. nat_eq (bit_at w (n % 64)) 1) (h.united (n / 64))
    ∙ ap (λ b. nat_eq b 1) (bit_at_or (get_or words (n / 64) 0) (bit_and (get_or one (n / 64) 0) (get_or other (n / 64) 0)) (n % 64))
    ∙ either_one (bit_at (get_or words (n / 64) 0) (n % 64)) (bit_at (bit_and (get_or one (n / 64) 0) (get_or other (n / 64) 0)) (n % 64)) (bit_at-lt (get_or words (n / 64) 0) (n % 64)) (bit_at-lt (bit_and (get_or one (n / 64) 0) (get_or other (n / 64) 0)) (n % 64))
    ∙ ap₂ (λ a b. a || b) (sym (has_bit_is words n))
    (ap (λ b. nat_eq b 1) (bit_at_and (get_or one (n / 64) 0) (get_or other (n / 64) 0) (n % 64))
    ∙ both_one (bit_at (get_or one (n / 64) 0) (n % 64)) (bit_at (get_or other (n / 64) 0) (n % 64)) (bit_at-lt (get_or one (n / 64) 0) (n % 64)) (bit_at-lt (get_or other (n / 64) 0) (n % 64))
    ∙ sym (ap₂ (λ a b. a && b) (has_bit_is one n) (has_bit_is other n)))
