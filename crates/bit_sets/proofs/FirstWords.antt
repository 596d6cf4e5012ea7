-- Facts on the bits of a first word and those behind it.
use Rattle.std.proofs.Common.{◌≡◌, ℕ, suc, zero, ◌+◌, ◌-◌, ◌*◌, ◌/◌, ◌%◌, ◌^◌, ◌<◌, ◌≤◌, inl, inr, Bool, true, false, nat_eq, List, [], ◌∷◌, ◌++◌, length, get_or, set, replicate, refl, ap, ap₂, subst, sym, ◌∙◌, arith, Some, None}
use Rattle.std.specs.Int.{bit_at, trailing_zeros, w64}
use Rattle.std.specs.Int.Bits.{bit_and, bit_or, bit_xor, or_zero_r}
use Rattle.std.proofs.lemmas.Bool.{cases_lt}
use Rattle.std.proofs.lemmas.List.{append-nil}
use Rattle.bit_sets.specs.Blocks.{has_bit, with_bit, HasBitsOfBoth, HasCommonBits, IsFirstDifference, ShareBit}
use Rattle.bit_sets.proofs.BitFacts.{has_bit-past}
use Rattle.bit_sets.proofs.WordFacts.{has_bit_is, shared_at, none_shared, differ_at, same_words}

-- the bits of the first word
pub has_bit-first : (w : ℕ) (ws : List ℕ) (n : ℕ) → n < 64 → has_bit (w ∷ ws) n ≡ nat_eq (bit_at w n) 1
has_bit-first w ws n lt =
    let place : n / 64 ≡ 0 = omega arith in
    let bit : n % 64 ≡ n = omega arith in
    has_bit_is (w ∷ ws) n ∙ ap₂ (λ j k. nat_eq (bit_at (get_or (w ∷ ws) j 0) k) 1) place bit

-- the bits of the words behind it
pub has_bit-later : (w : ℕ) (ws : List ℕ) (n : ℕ) → 64 ≤ n → has_bit (w ∷ ws) n ≡ has_bit ws (n - 64)
has_bit-later w ws n le =
    let place : n / 64 ≡ suc ((n - 64) / 64) = omega arith in
    let bit : n % 64 ≡ (n - 64) % 64 = omega arith in
    has_bit_is (w ∷ ws) n ∙ ap₂ (λ j k. nat_eq (bit_at (get_or (w ∷ ws) j 0) k) 1) place bit ∙ sym (has_bit_is ws (n - 64))

pub has_bit-behind : (w : ℕ) (ws : List ℕ) (n : ℕ) → has_bit (w ∷ ws) (n + 64) ≡ has_bit ws n
has_bit-behind w ws n = let back : n + 64 - 64 ≡ n = omega arith in has_bit-later w ws (n + 64) (omega arith) ∙ ap (has_bit ws) back

-- a bit set in the first word
pub with_bit-first : (w : ℕ) (ws : List ℕ) (n : ℕ) → n < 64 → bit_or w (2 ^ n) ∷ ws ≡ with_bit (w ∷ ws) n
with_bit-first w ws n lt =
    let place : n / 64 ≡ 0 = omega arith in
    let bit : n % 64 ≡ n = omega arith in
    let none : 0 + 1 - length (w ∷ ws) ≡ 0 = omega arith in
    sym (ap₂ (λ j k. set ((w ∷ ws) ++ replicate (j + 1 - length (w ∷ ws)) 0) j (bit_or (get_or (w ∷ ws) j 0) (2 ^ k))) place bit
    ∙ ap (λ m. bit_or w (2 ^ n) ∷ (ws ++ replicate m 0)) none ∙ ap (λ l. bit_or w (2 ^ n) ∷ l) (append-nil ws))

-- a bit set behind it
pub with_bit-later : (w : ℕ) (ws : List ℕ) (n : ℕ) → 64 ≤ n → w ∷ with_bit ws (n - 64) ≡ with_bit (w ∷ ws) n
with_bit-later w ws n le =
    let place : n / 64 ≡ suc ((n - 64) / 64) = omega arith in
    let bit : n % 64 ≡ (n - 64) % 64 = omega arith in
    let many : suc ((n - 64) / 64) + 1 - length (w ∷ ws) ≡ (n - 64) / 64 + 1 - length ws = omega arith in
    sym (ap₂ (λ j k. set ((w ∷ ws) ++ replicate (j + 1 - length (w ∷ ws)) 0) j (bit_or (get_or (w ∷ ws) j 0) (2 ^ k))) place bit
    ∙ ap (λ m. w ∷ set (ws ++ replicate m 0) ((n - 64) / 64) (bit_or (get_or ws ((n - 64) / 64) 0) (2 ^ ((n - 64) % 64)))) many)

-- words that are united
pub united_behind : (v w : ℕ) (vs ws us : List ℕ) → HasBitsOfBoth vs ws us → HasBitsOfBoth (v ∷ vs) (w ∷ ws) (bit_or v w ∷ us)
united_behind v w vs ws us h = record { long = omega (arith, h.long); united = all }
  where
    all : (k : ℕ) → get_or (bit_or v w ∷ us) k 0 ≡ bit_or (get_or (v ∷ vs) k 0) (get_or (w ∷ ws) k 0)
    all zero = refl
    all (suc k) = h.united k

pub united_none : (vs : List ℕ) → HasBitsOfBoth vs [] vs
united_none vs = record { long = omega arith; united = λ k. sym (or_zero_r (get_or vs k 0)) }

-- words with the common bits
pub common_behind : (v w : ℕ) (vs ws us : List ℕ) → HasCommonBits vs ws us → HasCommonBits (v ∷ vs) (w ∷ ws) (bit_and v w ∷ us)
common_behind v w vs ws us h = record { long = omega (arith, h.long); common = all }
  where
    all : (k : ℕ) → get_or (bit_and v w ∷ us) k 0 ≡ bit_and (get_or (v ∷ vs) k 0) (get_or (w ∷ ws) k 0)
    all zero = refl
    all (suc k) = h.common k

-- whether a bit of one number is in both
pub share_here : (v w : ℕ) (vs ws : List ℕ) → bit_and v w < 2 ^ 64 → (bit_and v w ≡ 0 → ⊥) → ShareBit (v ∷ vs) (w ∷ ws) true
share_here v w vs ws fits some = shared_at (v ∷ vs) (w ∷ ws) 0 fits some

pub share_behind : (v w : ℕ) (vs ws : List ℕ) (b : Bool) → bit_and v w ≡ 0 → ShareBit vs ws b → ShareBit (v ∷ vs) (w ∷ ws) b
share_behind v w vs ws true none (n, mine, theirs) = (n + 64, has_bit-behind v vs n ∙ mine, has_bit-behind w ws n ∙ theirs)
share_behind v w vs ws false none no_more = all
  where
    all : (n : ℕ) → has_bit (v ∷ vs) n ≡ true → has_bit (w ∷ ws) n ≡ false
    all n h = elim (cases_lt n 64) [
      | inl lt ↦
          let place : n / 64 ≡ 0 = omega arith in
          none_shared (v ∷ vs) (w ∷ ws) n (ap (λ j. bit_and (get_or (v ∷ vs) j 0) (get_or (w ∷ ws) j 0)) place ∙ none) h
      | inr le ↦ has_bit-later w ws n le ∙ no_more (n - 64) (sym (has_bit-later v vs n le) ∙ h)
    ]

-- the first difference
pub differ_here : (v w : ℕ) (vs ws : List ℕ) → bit_xor v w < 2 ^ 64 → (bit_xor v w ≡ 0 → ⊥) → IsFirstDifference (v ∷ vs) (w ∷ ws) (Some (trailing_zeros w64 (bit_xor v w)))
differ_here v w vs ws fits some =
    let place : 0 * 64 + trailing_zeros w64 (bit_xor v w) ≡ trailing_zeros w64 (bit_xor v w) = omega arith in
    subst (λ (n : ℕ). IsFirstDifference (v ∷ vs) (w ∷ ws) (Some n)) place (differ_at (v ∷ vs) (w ∷ ws) 0 (λ m lt. absurd (omega arith)) fits some)

same_first : (v w : ℕ) (vs ws : List ℕ) (n : ℕ) → bit_xor v w ≡ 0 → n < 64 → has_bit (v ∷ vs) n ≡ has_bit (w ∷ ws) n
same_first v w vs ws n e lt =
    let place : n / 64 ≡ 0 = omega arith in
    same_words (v ∷ vs) (w ∷ ws) n (ap (λ j. bit_xor (get_or (v ∷ vs) j 0) (get_or (w ∷ ws) j 0)) place ∙ e)

pub differ_behind : (v w : ℕ) (vs ws : List ℕ) (n : ℕ) → bit_xor v w ≡ 0 → IsFirstDifference vs ws (Some n) → IsFirstDifference (v ∷ vs) (w ∷ ws) (Some (n + 64))
differ_behind v w vs ws n e d = (
  λ same. d.0 (sym (has_bit-behind v vs n) ∙ same ∙ has_bit-behind w ws n),
  λ m below. elim (cases_lt m 64) [
    | inl lt ↦ same_first v w vs ws m e lt
    | inr le ↦ has_bit-later v vs m le ∙ d.1 (m - 64) (omega arith) ∙ sym (has_bit-later w ws m le)
  ],
)

pub differ_nowhere : (v w : ℕ) (vs ws : List ℕ) → bit_xor v w ≡ 0 → IsFirstDifference vs ws None → IsFirstDifference (v ∷ vs) (w ∷ ws) None
differ_nowhere v w vs ws e d = λ n. elim (cases_lt n 64) [
  | inl lt ↦ same_first v w vs ws n e lt
  | inr le ↦ has_bit-later v vs n le ∙ d (n - 64) ∙ sym (has_bit-later w ws n le)
]

-- a difference is at a number of the words
pub differ_below : (words others : List ℕ) (n count : ℕ) → 64 * length words ≤ count → 64 * length others ≤ count → IsFirstDifference words others (Some n) → n < count
differ_below words others n count few less d = elim (cases_lt n count) [
  | inl lt ↦ lt
  | inr le ↦ absurd (d.0 (has_bit-past words n (omega arith) ∙ sym (has_bit-past others n (omega arith))))
]
