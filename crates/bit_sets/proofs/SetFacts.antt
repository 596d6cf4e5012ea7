-- Facts on sets as lists that rise: the numbers whose bits words have.
use Rattle.std.proofs.Common.{◌≡◌, ℕ, suc, zero, ◌+◌, ◌-◌, ◌*◌, ◌/◌, ◌%◌, ◌<◌, ◌≤◌, inl, inr, Bool, true, false, ◌||◌, ◌&&◌, cond, filter, min, nat_eq, List, [], ◌∷◌, length, get_or, refl, ap, ap₂, subst, sym, ◌∙◌, arith, max, Some, None, Contains, OnOk, OnErr, Result, Ok, Err}
use Rattle.std.specs.Int.{bit_at}
use Rattle.std.specs.Ordering.{nat_cmp, ordering_then}
use Rattle.std.specs.declared.cmp.Ordering.TheVariants.{Less, Equal, Greater}
use Rattle.std.proofs.lemmas.Bool.{eq-eqb, eqb-true, ne_eqb, lt-ltb, le-ltb, cases_eq, cases_lt}
use Rattle.std.proofs.lemmas.Nat.{le_or_l, le_or_r}
use Rattle.std.proofs.lemmas.Nat.Bits.{bit_at_or, bit_at_and, bit_at-lt}
use Rattle.msc_base.specs.declared.limits.TheConstants.Limits.{INSTANCES}
use Rattle.bit_sets.specs.Blocks.{BlockValue, AreAbove, IsStored, insert_rising, insert_each, is_among, share, shared, set_cmp, has_bit, numbers_that, bits_of, HasBitsOfBoth, HasCommonBits, IsTrimmed, IsRising, IsFirstDifference, ShareBit}
use Rattle.bit_sets.proofs.BitFacts.{has_bit-past, has_bit-contains, numbers_cases, numbers_above, numbers_same, numbers_zero, block_of}
use Rattle.bit_sets.proofs.RisingFacts.{insert_same, insert_later, insert_front, AreAbove-insert, contains_first, contains_later, contains_cases, contains_none}
use Rattle.bit_sets.proofs.WordFacts.{has_bit_is}

-- a number above is put behind
insert_each_front : (x : ℕ) (xs ys : List ℕ) → AreAbove x ys → insert_each (x ∷ xs) ys ≡ x ∷ insert_each xs ys
insert_each_front x xs [] a = refl
insert_each_front x xs (y ∷ ys) a = ap (λ l. insert_rising l y) (insert_each_front x xs ys a.1) ∙ insert_later y x (insert_each xs ys) a.0

above_each : (n : ℕ) (xs ys : List ℕ) → AreAbove n xs → AreAbove n ys → AreAbove n (insert_each xs ys)
above_each n xs [] a b = a
above_each n xs (y ∷ ys) a b = AreAbove-insert n y (insert_each xs ys) b.0 (above_each n xs ys a b.1)

-- the numbers that pass one of two tests
numbers_either : (t u v : ℕ → Bool) (count from : ℕ) → ((n : ℕ) → v n ≡ (t n || u n)) → numbers_that v count from ≡ insert_each (numbers_that t count from) (numbers_that u count from)
numbers_either t u v zero from f = numbers_zero v from ∙ sym (ap₂ insert_each (numbers_zero t from) (numbers_zero u from))
numbers_either t u v (suc count) from f = by_cases (numbers_either t u v count (suc from) f) (t from) (u from) refl refl
  where
    prefix : insert_each (from ∷ numbers_that t count (suc from)) (numbers_that u count (suc from)) ≡ from ∷ insert_each (numbers_that t count (suc from)) (numbers_that u count (suc from))
    prefix = insert_each_front from (numbers_that t count (suc from)) (numbers_that u count (suc from)) (numbers_above u count (suc from) from (omega arith))

    by_cases : numbers_that v count (suc from) ≡ insert_each (numbers_that t count (suc from)) (numbers_that u count (suc from)) → (a b : Bool) → t from ≡ a → u from ≡ b → numbers_that v (suc count) from ≡ insert_each (numbers_that t (suc count) from) (numbers_that u (suc count) from)
    by_cases rest true true p q =
        numbers_cases v count from true (f from ∙ ap₂ (λ a b. a || b) p q) ∙ ap (λ l. from ∷ l) rest
        ∙ sym (ap₂ insert_each (numbers_cases t count from true p) (numbers_cases u count from true q) ∙ ap (λ l. insert_rising l from) prefix ∙ insert_same from from (insert_each (numbers_that t count (suc from)) (numbers_that u count (suc from))) refl)
    by_cases rest true false p q =
        numbers_cases v count from true (f from ∙ ap₂ (λ a b. a || b) p q) ∙ ap (λ l. from ∷ l) rest
        ∙ sym (ap₂ insert_each (numbers_cases t count from true p) (numbers_cases u count from false q) ∙ prefix)
    by_cases rest false true p q =
        numbers_cases v count from true (f from ∙ ap₂ (λ a b. a || b) p q) ∙ ap (λ l. from ∷ l) rest
        ∙ sym (ap₂ insert_each (numbers_cases t count from false p) (numbers_cases u count from true q)
        ∙ insert_front from (insert_each (numbers_that t count (suc from)) (numbers_that u count (suc from))) (above_each from (numbers_that t count (suc from)) (numbers_that u count (suc from)) (numbers_above t count (suc from) from (omega arith)) (numbers_above u count (suc from) from (omega arith))))
    by_cases rest false false p q =
        numbers_cases v count from false (f from ∙ ap₂ (λ a b. a || b) p q) ∙ rest
        ∙ sym (ap₂ insert_each (numbers_cases t count from false p) (numbers_cases u count from false q))

either_one : (x y : ℕ) → x < 2 → y < 2 → nat_eq (max x y) 1 ≡ (nat_eq x 1 || nat_eq y 1)
either_one zero zero a b = refl
either_one zero (suc zero) a b = refl
either_one (suc zero) zero a b = refl
either_one (suc zero) (suc zero) a b = refl
either_one (suc (suc x)) y a b = absurd (omega arith)
either_one zero (suc (suc y)) a b = absurd (omega arith)
either_one (suc zero) (suc (suc y)) a b = absurd (omega arith)

-- the united words have the bits of both
has_bit_either : (words others both : List ℕ) → HasBitsOfBoth words others both → (n : ℕ) → has_bit both n ≡ (has_bit words n || has_bit others n)
has_bit_either words others both h n =
    has_bit_is both n ∙ ap (λ w. nat_eq (bit_at w (n % 64)) 1) (h.united (n / 64)) ∙ ap (λ b. nat_eq b 1) (bit_at_or (get_or words (n / 64) 0) (get_or others (n / 64) 0) (n % 64))
    ∙ either_one (bit_at (get_or words (n / 64) 0) (n % 64)) (bit_at (get_or others (n / 64) 0) (n % 64)) (bit_at-lt (get_or words (n / 64) 0) (n % 64)) (bit_at-lt (get_or others (n / 64) 0) (n % 64))
    ∙ sym (ap₂ (λ a b. a || b) (has_bit_is words n) (has_bit_is others n))

bits_of-united : (words others both : List ℕ) → HasBitsOfBoth words others both → bits_of both ≡ insert_each (bits_of words) (bits_of others)
bits_of-united words others both h = numbers_either (has_bit words) (has_bit others) (has_bit both) INSTANCES 0 (has_bit_either words others both h)

stored_united : (words others both events theirs : List ℕ) → HasBitsOfBoth words others both → IsStored words events → IsStored others theirs → IsStored both events
stored_united words others both events theirs h s t = record {
  few = omega (arith, h.long, s.few, t.few);
  last = λ some. elim (cases_lt (length words) (length others)) [
    | inl lt ↦
        let old : 0 < get_or others (length others - 1) 0 = t.last (omega arith) in
        let place : length both - 1 ≡ length others - 1 = omega (arith, h.long) in
        subst (λ (k : ℕ). 0 < get_or both k 0) (sym place) (omega (arith, h.united (length others - 1), old, le_or_r (get_or words (length others - 1) 0) (get_or others (length others - 1) 0)))
    | inr le ↦
        let old : 0 < get_or words (length words - 1) 0 = s.last (omega (arith, h.long)) in
        let place : length both - 1 ≡ length words - 1 = omega (arith, h.long) in
        subst (λ (k : ℕ). 0 < get_or both k 0) (sym place) (omega (arith, h.united (length words - 1), old, le_or_l (get_or words (length words - 1) 0) (get_or others (length words - 1) 0)))
  ];
  rising = s.rising;
}

pub stored_then : {T E : Type 0} (words others new events theirs kept : List ℕ) (r : Result T E) → OnOk r (HasBitsOfBoth words others new) → OnErr r (new ≡ words) → kept ≡ events → IsStored words events → IsStored others theirs → IsStored new kept
stored_then words others new events theirs kept (Ok x) h k same s t = subst (IsStored new) (sym same) (stored_united words others new events theirs h s t)
stored_then words others new events theirs kept (Err x) h k same s t = subst (IsStored new) (sym same) (subst (λ (l : List ℕ). IsStored l events) (sym k) s)

pub instances_added : {T E : Type 0} (words others new events theirs kept : List ℕ) (old other : BlockValue) (r : Result T E) → block_of (bits_of words) events ≡ old → block_of (bits_of others) theirs ≡ other → OnOk r (HasBitsOfBoth words others new) → kept ≡ events
    → OnOk r (block_of (bits_of new) kept ≡ block_of (insert_each old.instances other.instances) old.events)
instances_added words others new events theirs kept old other (Ok x) p q h same =
    ap₂ block_of (bits_of-united words others new h) same ∙ ap₂ (λ (b c : BlockValue). block_of (insert_each b.instances c.instances) b.events) p q
instances_added words others new events theirs kept old other (Err x) p q h same = tt

-- whether a list has a number
pub among_contains : (xs : List ℕ) (n : ℕ) → is_among xs n ≡ true → Contains xs n
among_contains [] n h = cc
among_contains (x ∷ xs) n h = by_case (λ there. among_contains xs n there) (nat_eq x n) refl
  where
    by_case : (is_among xs n ≡ true → Contains xs n) → (b : Bool) → nat_eq x n ≡ b → Contains (x ∷ xs) n
    by_case rest true e = contains_first n x xs (sym (eqb-true x n e))
    by_case rest false e = contains_later n x xs (rest (sym (ap (λ b. b || is_among xs n) e) ∙ h))

contains_among : (xs : List ℕ) (n : ℕ) → Contains xs n → is_among xs n ≡ true
contains_among [] n h = absurd (contains_none n h)
contains_among (x ∷ xs) n h =
    elim (contains_cases n x xs h) [
      | inl e ↦ ap (λ b. b || is_among xs n) (eq-eqb x n (sym e))
      | inr there ↦ ap (λ b. nat_eq x n || b) (contains_among xs n there) ∙ or_true (nat_eq x n)
    ]
  where
    or_true : (b : Bool) → (b || true) ≡ true
    or_true true = refl
    or_true false = refl

share_at : (xs ys : List ℕ) (n : ℕ) → Contains xs n → is_among ys n ≡ true → share xs ys ≡ true
share_at [] ys n h k = absurd (contains_none n h)
share_at (x ∷ xs) ys n h k =
    elim (contains_cases n x xs h) [
      | inl e ↦ ap (λ b. b || share xs ys) (ap (is_among ys) (sym e) ∙ k)
      | inr there ↦ ap (λ b. is_among ys x || b) (share_at xs ys n there k) ∙ or_true (is_among ys x)
    ]
  where
    or_true : (b : Bool) → (b || true) ≡ true
    or_true true = refl
    or_true false = refl

share_found : (xs ys : List ℕ) → share xs ys ≡ true → (n : ℕ) × Contains xs n × Contains ys n
share_found [] ys h = cc
share_found (x ∷ xs) ys h = by_case (λ there. share_found xs ys there) (is_among ys x) refl
  where
    by_case : (share xs ys ≡ true → (n : ℕ) × Contains xs n × Contains ys n) → (b : Bool) → is_among ys x ≡ b → (n : ℕ) × Contains (x ∷ xs) n × Contains ys n
    by_case rest true e = (x, contains_first x x xs refl, among_contains ys x e)
    by_case rest false e = let (n, here, there) = rest (sym (ap (λ b. b || share xs ys) e) ∙ h) in (n, contains_later n x xs here, there)

-- words of instances share a bit exactly where they share an instance
pub shares : (words others : List ℕ) (b : Bool) → 64 * length words ≤ INSTANCES → 64 * length others ≤ INSTANCES → ShareBit words others b → b ≡ share (bits_of words) (bits_of others)
shares words others true few less (n, mine, theirs) =
    sym (share_at (bits_of words) (bits_of others) n ((has_bit-contains words n true few (sym mine)).0 refl) (contains_among (bits_of others) n ((has_bit-contains others n true less (sym theirs)).0 refl)))
shares words others false few less none = by_case (share (bits_of words) (bits_of others)) refl
  where
    by_case : (b : Bool) → share (bits_of words) (bits_of others) ≡ b → false ≡ share (bits_of words) (bits_of others)
    by_case false e = sym e
    by_case true e =
        let (n, here, there) = share_found (bits_of words) (bits_of others) e in
        let mine : has_bit words n ≡ true = (has_bit-contains words n (has_bit words n) few refl).1 here in
        let theirs : has_bit others n ≡ true = (has_bit-contains others n (has_bit others n) less refl).1 there in
        let lacks : has_bit others n ≡ false = none n mine in
        cc

nat_cmp_less : (x y : ℕ) → x < y → nat_cmp x y ≡ Less
nat_cmp_less x y h = rw (lt-ltb x y h)

nat_cmp_greater : (x y : ℕ) → y < x → nat_cmp x y ≡ Greater
nat_cmp_greater x y h = rw (le-ltb x y (omega arith), ne_eqb x y (omega arith))

nat_cmp_same : (x : ℕ) → nat_cmp x x ≡ Equal
nat_cmp_same x = rw (le-ltb x x (omega arith), eq-eqb x x refl)

-- a set is as itself
set_cmp_same : (xs : List ℕ) → set_cmp xs xs ≡ Equal
set_cmp_same [] = refl
set_cmp_same (x ∷ xs) = ap (λ o. ordering_then o (set_cmp xs xs)) (nat_cmp_same x) ∙ set_cmp_same xs

-- a number before all of the other set
first_less : (x : ℕ) (xs ys : List ℕ) → AreAbove x ys → set_cmp (x ∷ xs) ys ≡ Less
first_less x xs [] a = refl
first_less x xs (y ∷ ys) a = ap (λ o. ordering_then o (set_cmp xs ys)) (nat_cmp_less x y a.0)

first_greater : (y : ℕ) (xs ys : List ℕ) → AreAbove y xs → set_cmp xs (y ∷ ys) ≡ Greater
first_greater y [] ys a = refl
first_greater y (x ∷ xs) ys a = ap (λ o. ordering_then o (set_cmp xs ys)) (nat_cmp_greater x y a.0)

less_at : (t u : ℕ → Bool) (n count from : ℕ) → from ≤ n → n < from + count → ((m : ℕ) → m < n → t m ≡ u m) → t n ≡ true → u n ≡ false → set_cmp (numbers_that t count from) (numbers_that u count from) ≡ Less
less_at t u n zero from le lt f mine theirs = absurd (omega arith)
less_at t u n (suc count) from le lt f mine theirs =
    elim (cases_eq n from) [
      | inl e ↦
          ap₂ set_cmp (numbers_cases t count from true (ap t (sym e) ∙ mine)) (numbers_cases u count from false (ap u (sym e) ∙ theirs))
          ∙ first_less from (numbers_that t count (suc from)) (numbers_that u count (suc from)) (numbers_above u count (suc from) from (omega arith))
      | inr other ↦
          let rest : set_cmp (numbers_that t count (suc from)) (numbers_that u count (suc from)) ≡ Less = less_at t u n count (suc from) (omega arith) (omega arith) f mine theirs in
          by_case (u from) (f from (omega arith)) refl rest
    ]
  where
    by_case : (b : Bool) → t from ≡ u from → u from ≡ b → set_cmp (numbers_that t count (suc from)) (numbers_that u count (suc from)) ≡ Less → set_cmp (numbers_that t (suc count) from) (numbers_that u (suc count) from) ≡ Less
    by_case true p q rest = ap₂ set_cmp (numbers_cases t count from true (p ∙ q)) (numbers_cases u count from true q) ∙ ap (λ o. ordering_then o (set_cmp (numbers_that t count (suc from)) (numbers_that u count (suc from)))) (nat_cmp_same from) ∙ rest
    by_case false p q rest = ap₂ set_cmp (numbers_cases t count from false (p ∙ q)) (numbers_cases u count from false q) ∙ rest

greater_at : (t u : ℕ → Bool) (n count from : ℕ) → from ≤ n → n < from + count → ((m : ℕ) → m < n → t m ≡ u m) → t n ≡ false → u n ≡ true → set_cmp (numbers_that t count from) (numbers_that u count from) ≡ Greater
greater_at t u n zero from le lt f mine theirs = absurd (omega arith)
greater_at t u n (suc count) from le lt f mine theirs =
    elim (cases_eq n from) [
      | inl e ↦
          ap₂ set_cmp (numbers_cases t count from false (ap t (sym e) ∙ mine)) (numbers_cases u count from true (ap u (sym e) ∙ theirs))
          ∙ first_greater from (numbers_that t count (suc from)) (numbers_that u count (suc from)) (numbers_above t count (suc from) from (omega arith))
      | inr other ↦
          let rest : set_cmp (numbers_that t count (suc from)) (numbers_that u count (suc from)) ≡ Greater = greater_at t u n count (suc from) (omega arith) (omega arith) f mine theirs in
          by_case (u from) (f from (omega arith)) refl rest
    ]
  where
    by_case : (b : Bool) → t from ≡ u from → u from ≡ b → set_cmp (numbers_that t count (suc from)) (numbers_that u count (suc from)) ≡ Greater → set_cmp (numbers_that t (suc count) from) (numbers_that u (suc count) from) ≡ Greater
    by_case true p q rest = ap₂ set_cmp (numbers_cases t count from true (p ∙ q)) (numbers_cases u count from true q) ∙ ap (λ o. ordering_then o (set_cmp (numbers_that t count (suc from)) (numbers_that u count (suc from)))) (nat_cmp_same from) ∙ rest
    by_case false p q rest = ap₂ set_cmp (numbers_cases t count from false (p ∙ q)) (numbers_cases u count from false q) ∙ rest

-- a bit that is had is that of an instance
had_below : (words : List ℕ) (n : ℕ) → 64 * length words ≤ INSTANCES → has_bit words n ≡ true → n < INSTANCES
had_below words n few h = elim (cases_lt n INSTANCES) [ inl lt ↦ lt | inr le ↦ let lacks : has_bit words n ≡ false = has_bit-past words n (omega arith) in cc ]

-- the order of the sets of instances, by the first difference of the words
pub ordered_less : (words others : List ℕ) (n : ℕ) → 64 * length words ≤ INSTANCES → has_bit words n ≡ true → IsFirstDifference words others (Some n) → Less ≡ set_cmp (bits_of words) (bits_of others)
ordered_less words others n few h d = sym (less_at (has_bit words) (has_bit others) n INSTANCES 0 (omega arith) (omega (arith, had_below words n few h)) d.1 h (other_false (has_bit others n) (λ e. d.0 (h ∙ sym e))))
  where
    other_false : (b : Bool) → (b ≡ true → ⊥) → b ≡ false
    other_false true differs = absurd (differs refl)
    other_false false differs = refl

pub ordered_greater : (words others : List ℕ) (n : ℕ) → 64 * length others ≤ INSTANCES → has_bit words n ≡ false → IsFirstDifference words others (Some n) → Greater ≡ set_cmp (bits_of words) (bits_of others)
ordered_greater words others n few h d =
    let has_ : has_bit others n ≡ true = other_true (has_bit others n) (λ e. d.0 (h ∙ sym e)) in
    sym (greater_at (has_bit words) (has_bit others) n INSTANCES 0 (omega arith) (omega (arith, had_below others n few has_)) d.1 h has_)
  where
    other_true : (b : Bool) → (b ≡ false → ⊥) → b ≡ true
    other_true true differs = refl
    other_true false differs = absurd (differs refl)

pub ordered_same : (words others : List ℕ) → IsFirstDifference words others None → Equal ≡ set_cmp (bits_of words) (bits_of others)
ordered_same words others same = sym (ap (λ l. set_cmp (bits_of words) l) (sym (numbers_same (has_bit words) (has_bit others) INSTANCES 0 (λ n le. same n))) ∙ set_cmp_same (bits_of words))

-- the numbers of a list that pass a test besides
numbers_both : (t u v : ℕ → Bool) (count from : ℕ) → ((n : ℕ) → v n ≡ (t n && u n)) → numbers_that v count from ≡ filter u (numbers_that t count from)
numbers_both t u v zero from f = numbers_zero v from ∙ sym (ap (filter u) (numbers_zero t from))
numbers_both t u v (suc count) from f = by_cases (numbers_both t u v count (suc from) f) (t from) (u from) refl refl
  where
    by_cases : numbers_that v count (suc from) ≡ filter u (numbers_that t count (suc from)) → (a b : Bool) → t from ≡ a → u from ≡ b → numbers_that v (suc count) from ≡ filter u (numbers_that t (suc count) from)
    by_cases rest true true p q =
        numbers_cases v count from true (f from ∙ ap₂ (λ a b. a && b) p q) ∙ ap (λ l. from ∷ l) rest
        ∙ sym (ap (filter u) (numbers_cases t count from true p) ∙ ap (λ c. cond c (from ∷ filter u (numbers_that t count (suc from))) (filter u (numbers_that t count (suc from)))) q)
    by_cases rest true false p q =
        numbers_cases v count from false (f from ∙ ap₂ (λ a b. a && b) p q) ∙ rest
        ∙ sym (ap (filter u) (numbers_cases t count from true p) ∙ ap (λ c. cond c (from ∷ filter u (numbers_that t count (suc from))) (filter u (numbers_that t count (suc from)))) q)
    by_cases rest false b p q = numbers_cases v count from false (f from ∙ ap (λ a. a && u from) p) ∙ rest ∙ sym (ap (filter u) (numbers_cases t count from false p))

both_one : (x y : ℕ) → x < 2 → y < 2 → nat_eq (min x y) 1 ≡ (nat_eq x 1 && nat_eq y 1)
both_one zero zero a b = refl
both_one zero (suc zero) a b = refl
both_one (suc zero) zero a b = refl
both_one (suc zero) (suc zero) a b = refl
both_one (suc (suc x)) y a b = absurd (omega arith)
both_one zero (suc (suc y)) a b = absurd (omega arith)
both_one (suc zero) (suc (suc y)) a b = absurd (omega arith)

-- the common words have the bits that are in both
has_bit_both : (words others both : List ℕ) → HasCommonBits words others both → (n : ℕ) → has_bit both n ≡ (has_bit words n && has_bit others n)
has_bit_both words others both h n =
    has_bit_is both n ∙ ap (λ w. nat_eq (bit_at w (n % 64)) 1) (h.common (n / 64)) ∙ ap (λ b. nat_eq b 1) (bit_at_and (get_or words (n / 64) 0) (get_or others (n / 64) 0) (n % 64))
    ∙ both_one (bit_at (get_or words (n / 64) 0) (n % 64)) (bit_at (get_or others (n / 64) 0) (n % 64)) (bit_at-lt (get_or words (n / 64) 0) (n % 64)) (bit_at-lt (get_or others (n / 64) 0) (n % 64))
    ∙ sym (ap₂ (λ a b. a && b) (has_bit_is words n) (has_bit_is others n))

-- the test of a number is that of its bit
among_bits : (words : List ℕ) (n : ℕ) → 64 * length words ≤ INSTANCES → is_among (bits_of words) n ≡ has_bit words n
among_bits words n few = by_case (is_among (bits_of words) n) refl
  where
    other_false : (b : Bool) → (b ≡ true → ⊥) → b ≡ false
    other_false true differs = absurd (differs refl)
    other_false false differs = refl

    by_case : (b : Bool) → is_among (bits_of words) n ≡ b → is_among (bits_of words) n ≡ has_bit words n
    by_case true e = e ∙ sym ((has_bit-contains words n (has_bit words n) few refl).1 (among_contains (bits_of words) n e))
    by_case false e = e ∙ sym (other_false (has_bit words n) (λ set_. let bad : false ≡ true = sym e ∙ contains_among (bits_of words) n ((has_bit-contains words n true few (sym set_)).0 refl) in cc))

bits_of-common : (words others both : List ℕ) → 64 * length others ≤ INSTANCES → HasCommonBits words others both → bits_of both ≡ shared (bits_of words) (bits_of others)
bits_of-common words others both few h =
    numbers_both (has_bit words) (is_among (bits_of others)) (has_bit both) INSTANCES 0 (λ n. has_bit_both words others both h n ∙ ap (λ b. has_bit words n && b) (sym (among_bits others n few)))

pub common_block : (words others both events theirs none : List ℕ) (old other : BlockValue) → block_of (bits_of words) events ≡ old → block_of (bits_of others) theirs ≡ other → IsStored others theirs → HasCommonBits words others both → none ≡ [] → block_of (bits_of both) none ≡ block_of (shared old.instances other.instances) []
common_block words others both events theirs none old other p q s h e =
    ap₂ block_of (bits_of-common words others both s.few h) e ∙ ap₂ (λ (b c : BlockValue). block_of (shared b.instances c.instances) []) p q

pub stored_common : (words others events none : List ℕ) (v : ℕ) (vs : List ℕ) → IsStored words events → HasCommonBits words others (v ∷ vs) → IsTrimmed vs → none ≡ [] → IsStored (v ∷ vs) none
stored_common words others events none v vs s h last e = record {
  few = omega (arith, s.few, h.long);
  last = λ some. ends vs last some;
  rising = subst IsRising (sym e) tt;
}
  where
    ends : (vs : List ℕ) → IsTrimmed vs → 1 < length (v ∷ vs) → 0 < get_or (v ∷ vs) (length (v ∷ vs) - 1) 0
    ends [] t some = absurd (omega arith)
    ends (x ∷ xs) t some =
        let place : length (v ∷ x ∷ xs) - 1 ≡ suc (length (x ∷ xs) - 1) = omega arith in
        subst (λ (k : ℕ). 0 < get_or (v ∷ x ∷ xs) k 0) (sym place) (t (omega arith))
