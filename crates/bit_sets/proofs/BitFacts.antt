-- Facts on the numbers whose bits words have.
use Rattle.std.proofs.Common.{◌≡◌, ◌≢◌, ℕ, suc, zero, ◌+◌, ◌-◌, ◌*◌, ◌/◌, ◌%◌, ◌^◌, ◌<◌, ◌≤◌, inl, inr, Bool, true, false, nat_eq, cond, List, [], ◌∷◌, ◌++◌, length, get_or, set, replicate, refl, ap, subst, sym, ◌∙◌, arith, Contains, ◌↔◌, IsTrue, length-append, Result, Ok, Err, OnOk, OnErr, ap₂, take}
use Rattle.std.specs.Int.{bit_at}
use Rattle.std.specs.Int.Bits.{bit_or}
use Rattle.std.proofs.lemmas.Bool.{eq-eqb, cases_eq, cases_lt}
use Rattle.std.proofs.lemmas.List.{append-nil, take_all, get_or_past, get_or-replicate, get_or-set_same, get_or-set_other, length-replicate, length-set}
use Rattle.std.proofs.lemmas.Nat.{pow_pos, le_or_r, one_shl}
use Rattle.std.proofs.lemmas.Grind.{get_or_default_zero}
use Rattle.std.specs.List.{insert}
use Rattle.std.proofs.lemmas.Nat.Bits.{bit_at_or, bit_at-pow_same, bit_at-pow_other, bit_at-lt, bit_at-zero}
use Rattle.msc_base.specs.declared.limits.TheConstants.Limits.{INSTANCES}
use Rattle.bit_sets.specs.Blocks.{BlockValue, AreAbove, AreBelow, IsRising, IsBlock, IsStored, insert_rising, has_bit, numbers_that, bits_of, with_bit}
use Rattle.bit_sets.proofs.RisingFacts.{insert_same, insert_later, insert_front, contains_first, contains_later, contains_cases, contains_none, IsRising-insert}

-- words that have no bit
abbrev zeros : ℕ → List ℕ
zeros m = replicate m 0

zeros_len : (m : ℕ) → length (zeros m) ≡ m
zeros_len m = length-replicate {A = ℕ} m 0

zeros_read : (m j : ℕ) → get_or (zeros m) j 0 ≡ 0
zeros_read m j = elim (cases_lt j m) [ inl lt ↦ get_or-replicate {A = ℕ} m j 0 0 lt | inr le ↦ get_or_past (zeros m) j 0 (omega (arith, zeros_len m)) ]

widened_read : (words : List ℕ) (m j : ℕ) → get_or (words ++ replicate m 0) j 0 ≡ get_or words j 0
widened_read [] m j = zeros_read m j
widened_read (w ∷ words) m zero = refl
widened_read (w ∷ words) m (suc j) = widened_read words m j

pub widened_len : (words : List ℕ) (m : ℕ) → length (words ++ replicate m 0) ≡ length words + m
widened_len words m = omega (arith, length-append words (zeros m), zeros_len m)

-- the word of a number, with its bit
with_bit_at : (words : List ℕ) (n : ℕ) → get_or (with_bit words n) (n / 64) 0 ≡ bit_or (get_or words (n / 64) 0) (2 ^ (n % 64))
with_bit_at words n =
    get_or-set_same (words ++ replicate (n / 64 + 1 - length words) 0) (n / 64) (bit_or (get_or words (n / 64) 0) (2 ^ (n % 64))) 0
    (omega (arith, widened_len words (n / 64 + 1 - length words)))

with_bit_beside : (words : List ℕ) (n j : ℕ) → j ≢ n / 64 → get_or (with_bit words n) j 0 ≡ get_or words j 0
with_bit_beside words n j ne =
    get_or-set_other (words ++ replicate (n / 64 + 1 - length words) 0) (n / 64) j (bit_or (get_or words (n / 64) 0) (2 ^ (n % 64))) 0 ne
    ∙ widened_read words (n / 64 + 1 - length words) j

with_bit_len : (words : List ℕ) (n : ℕ) → length (with_bit words n) ≡ length words + (n / 64 + 1 - length words)
with_bit_len words n =
    length-set (words ++ replicate (n / 64 + 1 - length words) 0) (n / 64) (bit_or (get_or words (n / 64) 0) (2 ^ (n % 64)))
    ∙ widened_len words (n / 64 + 1 - length words)

bit_set : (w k : ℕ) → bit_at (bit_or w (2 ^ k)) k ≡ 1
bit_set w k = omega (arith, bit_at_or w (2 ^ k) k, bit_at-pow_same k, bit_at-lt w k)

bit_kept : (w k i : ℕ) → i ≢ k → bit_at (bit_or w (2 ^ k)) i ≡ bit_at w i
bit_kept w k i ne = omega (arith, bit_at_or w (2 ^ k) i, bit_at-pow_other k i ne)

-- the number's bit is set
pub has_bit-with_same : (words : List ℕ) (n : ℕ) → has_bit (with_bit words n) n ≡ true
unfolding has_bit
has_bit-with_same words n = eq-eqb (bit_at (get_or (with_bit words n) (n / 64) 0) (n % 64)) 1 (ap (λ w. bit_at w (n % 64)) (with_bit_at words n) ∙ bit_set (get_or words (n / 64) 0) (n % 64))

-- the other bits are as they were
pub has_bit-with_other : (words : List ℕ) (n m : ℕ) → m ≢ n → has_bit (with_bit words n) m ≡ has_bit words m
unfolding has_bit
has_bit-with_other words n m ne = ap (λ b. nat_eq b 1) (elim (cases_eq (m / 64) (n / 64)) [ inl e ↦ in_word e | inr other ↦ ap (λ w. bit_at w (m % 64)) (with_bit_beside words n (m / 64) other) ])
  where
    in_word : m / 64 ≡ n / 64 → bit_at (get_or (with_bit words n) (m / 64) 0) (m % 64) ≡ bit_at (get_or words (m / 64) 0) (m % 64)
    in_word e =
        let rests : m % 64 ≢ n % 64 = λ same. ne (omega arith) in
        ap (λ w. bit_at w (m % 64)) (ap (λ j. get_or (with_bit words n) j 0) e ∙ with_bit_at words n)
        ∙ bit_kept (get_or words (n / 64) 0) (n % 64) (m % 64) rests
        ∙ ap (λ j. bit_at (get_or words j 0) (m % 64)) (sym e)

pub has_bit-past : (words : List ℕ) (n : ℕ) → length words ≤ n / 64 → has_bit words n ≡ false
unfolding has_bit
has_bit-past words n h = ap (λ w. nat_eq (bit_at w (n % 64)) 1) (get_or_past words (n / 64) 0 h) ∙ ap (λ b. nat_eq b 1) (bit_at-zero (n % 64))

-- the numbers that pass a test
pub numbers_cases : (test : ℕ → Bool) (count from : ℕ) (b : Bool) → test from ≡ b → numbers_that test (suc count) from ≡ cond b (from ∷ numbers_that test count (suc from)) (numbers_that test count (suc from))
unfolding numbers_that
numbers_cases test count from b e = ap (λ c. cond c (from ∷ numbers_that test count (suc from)) (numbers_that test count (suc from))) e

pub numbers_zero : (test : ℕ → Bool) (from : ℕ) → numbers_that test zero from ≡ []
unfolding numbers_that
numbers_zero test from = refl

-- a fact of the numbers, by whether the first passes
pub numbers_step : (test : ℕ → Bool) (count from : ℕ) (P : List ℕ → Type 0) → (test from ≡ true → P (from ∷ numbers_that test count (suc from))) → (test from ≡ false → P (numbers_that test count (suc from))) → P (numbers_that test (suc count) from)
numbers_step test count from P yes_ no_ = choose (test from) refl
  where
    choose : (b : Bool) → test from ≡ b → P (numbers_that test (suc count) from)
    choose true e = subst P (sym (numbers_cases test count from true e)) (yes_ e)
    choose false e = subst P (sym (numbers_cases test count from false e)) (no_ e)

numbers_none : (test : ℕ → Bool) (count from : ℕ) → ((n : ℕ) → test n ≡ false) → numbers_that test count from ≡ []
numbers_none test zero from f = numbers_zero test from
numbers_none test (suc count) from f = numbers_cases test count from false (f from) ∙ numbers_none test count (suc from) f

pub numbers_same : (t u : ℕ → Bool) (count from : ℕ) → ((n : ℕ) → from ≤ n → t n ≡ u n) → numbers_that t count from ≡ numbers_that u count from
numbers_same t u zero from f = numbers_zero t from ∙ sym (numbers_zero u from)
numbers_same t u (suc count) from f =
    numbers_cases t count from (u from) (f from (omega arith))
    ∙ ap (λ l. cond (u from) (from ∷ l) l) (numbers_same t u count (suc from) (λ n le. f n (omega arith)))
    ∙ sym (numbers_cases u count from (u from) refl)

pub numbers_above : (test : ℕ → Bool) (count from n : ℕ) → n < from → AreAbove n (numbers_that test count from)
numbers_above test zero from n lt = subst (AreAbove n) (sym (numbers_zero test from)) tt
numbers_above test (suc count) from n lt =
    let rest : AreAbove n (numbers_that test count (suc from)) = numbers_above test count (suc from) n (omega arith) in
    numbers_step test count from (AreAbove n) (λ _. (lt, rest)) (λ _. rest)

numbers_rise : (test : ℕ → Bool) (count from : ℕ) → IsRising (numbers_that test count from)
numbers_rise test zero from = subst IsRising (sym (numbers_zero test from)) tt
numbers_rise test (suc count) from =
    let rest : IsRising (numbers_that test count (suc from)) = numbers_rise test count (suc from) in
    numbers_step test count from IsRising (λ _. (numbers_above test count (suc from) from (omega arith), rest)) (λ _. rest)

numbers_below : (test : ℕ → Bool) (count from n : ℕ) → from + count ≤ n → AreBelow n (numbers_that test count from)
numbers_below test zero from n le = subst (AreBelow n) (sym (numbers_zero test from)) tt
numbers_below test (suc count) from n le =
    let rest : AreBelow n (numbers_that test count (suc from)) = numbers_below test count (suc from) n (omega arith) in
    let first : from < n = omega arith in
    numbers_step test count from (AreBelow n) (λ _. (first, rest)) (λ _. rest)

numbers_have : (test : ℕ → Bool) (count from n : ℕ) → from ≤ n → n < from + count → test n ≡ true → Contains (numbers_that test count from) n
numbers_have test zero from n le lt e = absurd (omega arith)
numbers_have test (suc count) from n le lt e =
    elim (cases_eq n from) [
      | inl same ↦ subst (λ (l : List ℕ). Contains l n) (sym (numbers_cases test count from true (ap test (sym same) ∙ e))) (contains_first n from (numbers_that test count (suc from)) same)
      | inr other ↦
          let rest : Contains (numbers_that test count (suc from)) n = numbers_have test count (suc from) n (omega arith) (omega arith) e in
          numbers_step test count from (λ (l : List ℕ). Contains l n) (λ _. contains_later n from (numbers_that test count (suc from)) rest) (λ _. rest)
    ]

numbers_pass : (test : ℕ → Bool) (count from n : ℕ) → Contains (numbers_that test count from) n → test n ≡ true
numbers_pass test zero from n h = absurd (contains_none n (subst (λ (l : List ℕ). Contains l n) (numbers_zero test from) h))
numbers_pass test (suc count) from n h =
    numbers_step test count from (λ (l : List ℕ). Contains l n → test n ≡ true)
    (λ e there. elim (contains_cases n from (numbers_that test count (suc from)) there) [ inl same ↦ ap test same ∙ e | inr rest ↦ numbers_pass test count (suc from) n rest ])
    (λ _ there. numbers_pass test count (suc from) n there) h

-- one number more passes
numbers_more : (t u : ℕ → Bool) (x count from : ℕ) → u x ≡ true → ((n : ℕ) → n ≢ x → u n ≡ t n) → from ≤ x → x < from + count → numbers_that u count from ≡ insert_rising (numbers_that t count from) x
numbers_more t u x zero from e f le lt = absurd (omega arith)
numbers_more t u x (suc count) from e f le lt =
    elim (cases_eq x from) [
      | inl same ↦
          numbers_cases u count from true (ap u (sym same) ∙ e)
          ∙ ap (λ l. from ∷ l) (numbers_same u t count (suc from) (λ n above. f n (λ is. absurd (omega arith))))
          ∙ numbers_step t count from (λ (l : List ℕ). from ∷ numbers_that t count (suc from) ≡ insert_rising l x)
          (λ _. sym (insert_same x from (numbers_that t count (suc from)) same))
          (λ _. sym (insert_front x (numbers_that t count (suc from)) (numbers_above t count (suc from) x (omega arith)) ∙ ap (λ y. y ∷ numbers_that t count (suc from)) same))
      | inr other ↦
          let rest : numbers_that u count (suc from) ≡ insert_rising (numbers_that t count (suc from)) x = numbers_more t u x count (suc from) e f (omega arith) (omega arith) in
          let below : from < x = omega arith in
          let same : u from ≡ t from = f from (λ is. other (sym is)) in
          numbers_step t count from (λ (l : List ℕ). numbers_that u (suc count) from ≡ insert_rising l x)
          (λ yes_. numbers_cases u count from true (same ∙ yes_) ∙ ap (λ l. from ∷ l) rest ∙ sym (insert_later x from (numbers_that t count (suc from)) below))
          (λ no_. numbers_cases u count from false (same ∙ no_) ∙ rest)
    ]

-- a word of 0 has no numbers
pub bits_of-zero : bits_of (0 ∷ []) ≡ []
unfolding has_bit
bits_of-zero = numbers_none (has_bit (0 ∷ [])) INSTANCES 0 none
  where
    read : (j : ℕ) → ◌≡◌ {A = ℕ} (get_or (0 ∷ []) j 0) 0
    read zero = refl
    read (suc j) = refl

    none : (n : ℕ) → has_bit (0 ∷ []) n ≡ false
    none n = ap (λ w. nat_eq (bit_at w (n % 64)) 1) (read (n / 64)) ∙ ap (λ b. nat_eq b 1) (bit_at-zero (n % 64))

-- the words with a number's bit have that number besides
pub bits_of-with : (words : List ℕ) (n : ℕ) → n < INSTANCES → bits_of (with_bit words n) ≡ insert_rising (bits_of words) n
bits_of-with words n h = numbers_more (has_bit words) (has_bit (with_bit words n)) n INSTANCES 0 (has_bit-with_same words n) (λ m ne. has_bit-with_other words n m ne) (omega arith) (omega arith)

-- words for instances have exactly the numbers of the bits that they have
pub has_bit-contains : (words : List ℕ) (n : ℕ) (b : Bool) → 64 * length words ≤ INSTANCES → b ≡ has_bit words n → IsTrue b ↔ Contains (bits_of words) n
has_bit-contains words n b few e = (λ h. there (sym e ∙ h), λ h. e ∙ numbers_pass (has_bit words) INSTANCES 0 n h)
  where
    there : has_bit words n ≡ true → Contains (bits_of words) n
    there set_ = elim (cases_lt n INSTANCES) [
      | inl lt ↦ numbers_have (has_bit words) INSTANCES 0 n (omega arith) (omega arith) set_
      | inr le ↦ let bad : true ≡ false = sym set_ ∙ has_bit-past words n (omega arith) in cc
    ]

pub block_of_stored : (words events : List ℕ) → IsStored words events → IsBlock (record { instances = bits_of words; events = events })
block_of_stored words events s = record {
  instances_rise = numbers_rise (has_bit words) INSTANCES 0;
  instances_below = numbers_below (has_bit words) INSTANCES 0 INSTANCES (omega arith);
  events_rise = s.rising;
}

-- the words with a bit are stored as they should be
pub stored_with : (words events : List ℕ) (n : ℕ) → n < INSTANCES → IsStored words events → IsStored (with_bit words n) events
stored_with words events n h s = record {
  few = omega (arith, with_bit_len words n, s.few);
  last = λ some. elim (cases_eq (length (with_bit words n) - 1) (n / 64)) [
    | inl e ↦ subst (λ (j : ℕ). 0 < get_or (with_bit words n) j 0) (sym e) (subst (λ (w : ℕ). 0 < w) (sym (with_bit_at words n)) (omega (arith, le_or_r (get_or words (n / 64) 0) (2 ^ (n % 64)), pow_pos (n % 64))))
    | inr other ↦
        let same : length (with_bit words n) ≡ length words = omega (arith, with_bit_len words n) in
        let old : 0 < get_or words (length words - 1) 0 = s.last (omega (arith, with_bit_len words n)) in
        subst (λ (w : ℕ). 0 < w) (sym (with_bit_beside words n (length (with_bit words n) - 1) other ∙ ap (λ (k : ℕ). get_or words (k - 1) 0) same)) old
  ];
  rising = s.rising;
}

-- a block of these lists
abbrev pub block_of : List ℕ → List ℕ → BlockValue
block_of instances events = record { instances = instances; events = events }

pub same_blocks : (i j e f : List ℕ) → i ≡ j → e ≡ f → block_of i e ≡ block_of j f
same_blocks i j e f p q = ap₂ block_of p q

-- what the code writes is the words with the bit
pub with_bit_is : (old words : List ℕ) (n w : ℕ) → words ≡ old ++ replicate (n / 64 + 1 - length old) 0 → n / 64 < length words → w ≡ get_or words (n / 64) w
    → set words (n / 64) (bit_or w (1 * 2 ^ (n % 64) % 2 ^ 64)) ≡ with_bit old n
with_bit_is old words n w e h is =
    let word : w ≡ get_or old (n / 64) 0 = is ∙ get_or_default_zero words (n / 64) w h ∙ ap (λ l. get_or l (n / 64) 0) e ∙ widened_read old (n / 64 + 1 - length old) (n / 64) in
    ap₂ (λ l v. set l (n / 64) v) e (ap₂ bit_or word (one_shl (n % 64) 64 (omega arith)))

pub widened : (old words : List ℕ) (n len : ℕ) → len ≡ length old → length old ≤ n / 64 → words ≡ take (n / 64 + 1) old ++ replicate (n / 64 + 1 - len) 0 → words ≡ old ++ replicate (n / 64 + 1 - length old) 0
widened old words n len is h e = e ∙ ap₂ (λ l k. l ++ replicate (n / 64 + 1 - k) 0) (take_all (n / 64 + 1) old (omega arith)) is

pub widened_enough : (old words : List ℕ) (n : ℕ) → words ≡ old ++ replicate (n / 64 + 1 - length old) 0 → n / 64 < length words
widened_enough old words n e = omega (arith, ap length e, widened_len old (n / 64 + 1 - length old))

pub wide_enough : (old words : List ℕ) (n : ℕ) → n / 64 < length old → words ≡ old → words ≡ old ++ replicate (n / 64 + 1 - length old) 0
wide_enough old words n h e =
    let none : n / 64 + 1 - length old ≡ 0 = omega arith in
    e ∙ sym (ap (λ k. old ++ replicate k 0) none ∙ append-nil old)

-- words that were widened have the bit where the shorter ones have it
pub with_bit_widened : (old words : List ℕ) (n : ℕ) → words ≡ old ++ replicate (n / 64 + 1 - length old) 0 → with_bit words n ≡ with_bit old n
with_bit_widened old words n e =
    let h = widened_enough old words n e in
    let w = get_or words (n / 64) 0 in
    let is : w ≡ get_or words (n / 64) w = sym (get_or_default_zero words (n / 64) w h) in
    sym (with_bit_is words words n w (wide_enough words words n h refl) h is) ∙ with_bit_is old words n w e h is

pub stored_after : {T E : Type 0} (words new events kept : List ℕ) (n : ℕ) (r : Result T E) → n < INSTANCES → OnOk r (new ≡ with_bit words n) → OnErr r (new ≡ words) → kept ≡ events → IsStored words events → IsStored new kept
stored_after words new events kept n (Ok t) h e k same s = subst (IsStored new) (sym same) (subst (λ (l : List ℕ). IsStored l events) (sym e) (stored_with words events n h s))
stored_after words new events kept n (Err t) h e k same s = subst (IsStored new) (sym same) (subst (λ (l : List ℕ). IsStored l events) (sym k) s)

pub instance_added : {T E : Type 0} (words new events kept : List ℕ) (n : ℕ) (old : BlockValue) (r : Result T E) → n < INSTANCES → block_of (bits_of words) events ≡ old → OnOk r (new ≡ with_bit words n) → kept ≡ events
    → OnOk r (block_of (bits_of new) kept ≡ block_of (insert_rising old.instances n) old.events)
instance_added words new events kept n old (Ok t) h view_is e same =
    ap₂ block_of (ap bits_of e ∙ bits_of-with words n h) same ∙ ap (λ (b : BlockValue). block_of (insert_rising b.instances n) b.events) view_is
instance_added words new events kept n old (Err t) h view_is e same = tt

pub stored_more : (words old kept new : List ℕ) (x i : ℕ) → kept ≡ words → new ≡ insert old i x → insert_rising old x ≡ insert old i x → IsStored words old → IsStored kept new
stored_more words old kept new x i same e is s = subst (λ (l : List ℕ). IsStored l new) (sym same) (record { few = s.few; last = s.last; rising = subst IsRising (is ∙ sym e) (IsRising-insert x old s.rising) })

pub event_added : (instances events new : List ℕ) (x : ℕ) (old : BlockValue) → block_of instances events ≡ old → new ≡ insert_rising events x → block_of instances new ≡ block_of old.instances (insert_rising old.events x)
event_added instances events new x old view_is e = ap (λ l. block_of instances l) e ∙ ap (λ (b : BlockValue). block_of b.instances (insert_rising b.events x)) view_is
