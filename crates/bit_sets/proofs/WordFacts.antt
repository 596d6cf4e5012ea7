-- Facts on the bits of two lists of words.
use Rattle.std.proofs.Common.{◌≡◌, ℕ, zero, suc, ap₂, Some, ◌+◌, ◌*◌, ◌/◌, ◌%◌, ◌^◌, ◌<◌, ◌≤◌, inl, inr, true, false, nat_eq, List, length, get_or, refl, ap, sym, ◌∙◌, arith}
use Rattle.std.specs.Int.{bit_at, trailing_zeros, w64}
use Rattle.std.specs.Int.Bits.{bit_and, bit_xor}
use Rattle.std.proofs.lemmas.Bool.{eq-eqb, eqb-true, cases_lt}
use Rattle.std.proofs.lemmas.Nat.Bits.{bit_at_and, bit_at_xor, bit_at-lt, bit_at-zero, bit_at-trailing_zeros}
use Rattle.bit_sets.specs.Blocks.{has_bit, IsFirstDifference}
use Rattle.bit_sets.proofs.BitFacts.{has_bit-past}

-- words that agree on the numbers of both agree on all
pub no_difference : (words others : List ℕ) (count : ℕ) → 64 * length words ≤ count → 64 * length others ≤ count → ((m : ℕ) → m < count → has_bit words m ≡ has_bit others m) → (n : ℕ) → has_bit words n ≡ has_bit others n
no_difference words others count few less same n =
    elim (cases_lt n count) [
      | inl lt ↦ same n lt
      | inr le ↦ has_bit-past words n (omega arith) ∙ sym (has_bit-past others n (omega arith))
    ]

-- the words' bit of a number
pub has_bit_is : (words : List ℕ) (n : ℕ) → has_bit words n ≡ nat_eq (bit_at (get_or words (n / 64) 0) (n % 64)) 1
unfolding has_bit
has_bit_is words n = refl

-- both bits are 1 where that of the common word is
both_bits : (a b k : ℕ) → bit_at (bit_and a b) k ≡ 1 → (bit_at a k ≡ 1) × (bit_at b k ≡ 1)
both_bits a b k e = (omega (arith, e, bit_at_and a b k, bit_at-lt a k, bit_at-lt b k), omega (arith, e, bit_at_and a b k, bit_at-lt a k, bit_at-lt b k))

-- a bit that is 1 is had
had : (words : List ℕ) (j k : ℕ) → k < 64 → bit_at (get_or words j 0) k ≡ 1 → has_bit words (j * 64 + k) ≡ true
had words j k lt e =
    let place : (j * 64 + k) / 64 ≡ j = omega arith in
    let bit : (j * 64 + k) % 64 ≡ k = omega arith in
    has_bit_is words (j * 64 + k) ∙ ap (λ i. nat_eq (bit_at (get_or words i 0) ((j * 64 + k) % 64)) 1) place ∙ ap (λ i. nat_eq (bit_at (get_or words j 0) i) 1) bit ∙ eq-eqb (bit_at (get_or words j 0) k) 1 e

-- two words with a common bit
pub shared_at : (words others : List ℕ) (j : ℕ) → bit_and (get_or words j 0) (get_or others j 0) < 2 ^ 64 → (bit_and (get_or words j 0) (get_or others j 0) ≡ 0 → ⊥) → (n : ℕ) × (has_bit words n ≡ true) × (has_bit others n ≡ true)
shared_at words others j fits some =
    let common : ℕ = bit_and (get_or words j 0) (get_or others j 0) in
    let (lt, one, _) = bit_at-trailing_zeros w64 common (omega (arith, some)) fits in
    let (mine, theirs) = both_bits (get_or words j 0) (get_or others j 0) (trailing_zeros w64 common) one in
    (j * 64 + trailing_zeros w64 common, had words j (trailing_zeros w64 common) lt mine, had others j (trailing_zeros w64 common) lt theirs)

-- two words with no common bit
pub none_shared : (words others : List ℕ) (n : ℕ) → bit_and (get_or words (n / 64) 0) (get_or others (n / 64) 0) ≡ 0 → has_bit words n ≡ true → has_bit others n ≡ false
none_shared words others n none has_ =
    let k : ℕ = n % 64 in
    let both : bit_at (bit_and (get_or words (n / 64) 0) (get_or others (n / 64) 0)) (n % 64) ≡ 0 = ap (λ w. bit_at w (n % 64)) none ∙ bit_at-zero (n % 64) in
    let mine : bit_at (get_or words (n / 64) 0) (n % 64) ≡ 1 = eqb-true (bit_at (get_or words (n / 64) 0) (n % 64)) 1 (sym (has_bit_is words n) ∙ has_) in
    let theirs : bit_at (get_or others (n / 64) 0) (n % 64) ≡ 0 = omega (arith, both, mine, bit_at_and (get_or words (n / 64) 0) (get_or others (n / 64) 0) (n % 64), bit_at-lt (get_or others (n / 64) 0) (n % 64)) in
    has_bit_is others n ∙ ap (λ b. nat_eq b 1) theirs

-- bits that differ, and bits that don't
apart : (a b : ℕ) → a < 2 → b < 2 → (a + b) % 2 ≡ 1 → nat_eq a 1 ≡ nat_eq b 1 → ⊥
apart zero zero f g odd same = omega (arith, odd)
apart zero (suc zero) f g odd same = cc
apart (suc zero) zero f g odd same = cc
apart (suc zero) (suc zero) f g odd same = omega (arith, odd)
apart (suc (suc a)) b f g odd same = omega arith
apart zero (suc (suc b)) f g odd same = omega arith
apart (suc zero) (suc (suc b)) f g odd same = omega arith

-- a word's bits are those of the other where the two differ nowhere
pub same_word : (words others : List ℕ) (n : ℕ) → bit_at (bit_xor (get_or words (n / 64) 0) (get_or others (n / 64) 0)) (n % 64) ≡ 0 → has_bit words n ≡ has_bit others n
same_word words others n e =
    let v : ℕ = get_or words (n / 64) 0 in
    let w : ℕ = get_or others (n / 64) 0 in
    let same : bit_at (get_or words (n / 64) 0) (n % 64) ≡ bit_at (get_or others (n / 64) 0) (n % 64) = omega (arith, e, bit_at_xor (get_or words (n / 64) 0) (get_or others (n / 64) 0) (n % 64), bit_at-lt (get_or words (n / 64) 0) (n % 64), bit_at-lt (get_or others (n / 64) 0) (n % 64)) in
    has_bit_is words n ∙ ap (λ b. nat_eq b 1) same ∙ sym (has_bit_is others n)

pub same_words : (words others : List ℕ) (n : ℕ) → bit_xor (get_or words (n / 64) 0) (get_or others (n / 64) 0) ≡ 0 → has_bit words n ≡ has_bit others n
same_words words others n e = same_word words others n (ap (λ w. bit_at w (n % 64)) e ∙ bit_at-zero (n % 64))

-- the first difference, in the first word that differs
pub differ_at : (words others : List ℕ) (j : ℕ) → ((m : ℕ) → m / 64 < j → has_bit words m ≡ has_bit others m) → bit_xor (get_or words j 0) (get_or others j 0) < 2 ^ 64 → (bit_xor (get_or words j 0) (get_or others j 0) ≡ 0 → ⊥)
    → IsFirstDifference words others (Some (j * 64 + trailing_zeros w64 (bit_xor (get_or words j 0) (get_or others j 0))))
differ_at words others j before fits some =
    let x : ℕ = bit_xor (get_or words j 0) (get_or others j 0) in
    let t : ℕ = trailing_zeros w64 x in
    let (lt, one, none) = bit_at-trailing_zeros w64 x (omega (arith, some)) fits in
    let place : (j * 64 + t) / 64 ≡ j = omega arith in
    let bit : (j * 64 + t) % 64 ≡ t = omega arith in
    let mine : has_bit words (j * 64 + t) ≡ nat_eq (bit_at (get_or words j 0) t) 1 = has_bit_is words (j * 64 + t) ∙ ap₂ (λ i k. nat_eq (bit_at (get_or words i 0) k) 1) place bit in
    let theirs : has_bit others (j * 64 + t) ≡ nat_eq (bit_at (get_or others j 0) t) 1 = has_bit_is others (j * 64 + t) ∙ ap₂ (λ i k. nat_eq (bit_at (get_or others i 0) k) 1) place bit in (
      λ same. apart (bit_at (get_or words j 0) t) (bit_at (get_or others j 0) t) (bit_at-lt (get_or words j 0) t) (bit_at-lt (get_or others j 0) t) (sym (bit_at_xor (get_or words j 0) (get_or others j 0) t) ∙ one) (sym mine ∙ same ∙ theirs),
      λ m below. elim (cases_lt (m / 64) j) [
        | inl lt ↦ before m lt
        | inr le ↦
            let here : m / 64 ≡ j = omega arith in
            same_word words others m (ap (λ i. bit_at (bit_xor (get_or words i 0) (get_or others i 0)) (m % 64)) here ∙ none (m % 64) (omega arith))
      ],
    )
