-- Numbers of decimal digits.
use Rattle.std.proofs.Common.{◌≡◌, ◌≢◌, ◌∙◌, ◌≤◌, ◌<◌, ◌+◌, ◌-◌, ◌*◌, ◌^◌, ◌⊎◌, inl, inr, ℕ, zero, suc, true, false, ◌&&◌, List, [], ◌∷◌, ◌++◌, length, take, get_or, arith, sym, ap, refl, rules, subst, length-take}
use Rattle.std.specs.Str.{all_ascii_digits}
use Rattle.std.specs.Char.{is_ascii_digit}
use Rattle.std.specs.Fmt.{decimal}
use Rattle.std.proofs.lemmas.Bool.{and_parts}
use Rattle.std.proofs.lemmas.Bool.Decides.{nat_tests}
use Rattle.std.proofs.lemmas.Fmt.{digits_decimal, digits_value-decimal, decimal-digits_value, decimal_nonempty, length-decimal-le, first_decimal, decimal_digit}
use Rattle.std.proofs.lemmas.List.{take_more}
use Rattle.std.proofs.lemmas.Str.Parse.{IsNumeralModel, numerals_by_fold, digits_value_short, digit_at}
use Rattle.certificate_texts.specs.Numbers.{digits_number, has_form}

-- ---- digits, one by one

pub more_digits : (byte : ℕ) (rest others bytes : List ℕ) → rest ≡ byte ∷ others → is_ascii_digit byte ≡ true → all_ascii_digits rest ≡ all_ascii_digits bytes → all_ascii_digits others ≡ all_ascii_digits bytes
more_digits byte rest others bytes r d h = ap (λ b. b && all_ascii_digits others) (sym d) ∙ ap all_ascii_digits (sym r) ∙ h

pub first_mark : (byte : ℕ) (rest others bytes : List ℕ) → rest ≡ byte ∷ others → is_ascii_digit byte ≡ false → all_ascii_digits rest ≡ all_ascii_digits bytes → all_ascii_digits bytes ≡ false
first_mark byte rest others bytes r d h = sym h ∙ ap all_ascii_digits r ∙ ap (λ b. b && all_ascii_digits others) d

pub all_digits : (rest bytes : List ℕ) → rest ≡ [] → all_ascii_digits rest ≡ all_ascii_digits bytes → all_ascii_digits bytes ≡ true
all_digits rest bytes r h = sym h ∙ ap all_ascii_digits r

-- ---- the number that they write

pub own : IsNumeralModel (λ ds. all_ascii_digits ds ≡ true) (digits_number 0)
own = numerals_by_fold _ (search rules) digits_number (search rules)

taken_digits : (k : ℕ) (ds : List ℕ) → all_ascii_digits ds ≡ true → all_ascii_digits (take k ds) ≡ true
taken_digits zero ds d = refl
taken_digits (suc k) [] d = refl
taken_digits (suc k) (b ∷ ds) d =
    let parts = and_parts (is_ascii_digit b) (all_ascii_digits ds) d in
    ap (λ t. t && all_ascii_digits (take k ds)) parts.0 ∙ taken_digits k ds parts.1

number_on : (n : ℕ) (ds : List ℕ) (d : ℕ) → digits_number n (ds ++ d ∷ []) ≡ 10 * digits_number n ds + (d - 48)
number_on n [] d = refl
number_on n (b ∷ ds) d = number_on (10 * n + (b - 48)) ds d

pub next_number : (ds : List ℕ) (i : ℕ) → i < length ds → digits_number 0 (take (i + 1) ds) ≡ 10 * digits_number 0 (take i ds) + (get_or ds i 0 - 48)
next_number ds i lt = ap (digits_number 0) (take_more ds i 0 lt) ∙ number_on 0 (take i ds) (get_or ds i 0)

pub small_number : (ds : List ℕ) (i : ℕ) → all_ascii_digits ds ≡ true → length ds ≤ 10 → digits_number 0 (take i ds) < 10 ^ 10
small_number ds i d few = digits_value_short own (take i ds) 10 (taken_digits i ds d) (omega (arith, length-take i ds))

pub digit_from : (ds : List ℕ) (i : ℕ) → all_ascii_digits ds ≡ true → i < length ds → 48 ≤ get_or ds i 0
digit_from ds i d lt = (digit_at ds i (own.to ds d) lt).0

pub digit_to : (ds : List ℕ) (i : ℕ) → all_ascii_digits ds ≡ true → i < length ds → get_or ds i 0 ≤ 57
digit_to ds i d lt = let r = digit_at ds i (own.to ds d) lt in omega (arith, r.1)

-- ---- the form of a number

formed_lead : (first count : ℕ) → has_form first count ≡ true → first ≡ 48 → count ≡ 1
formed_lead first count f e = grind (arith, nat_tests)

formed_few : (first count : ℕ) → has_form first count ≡ true → count ≤ 10
formed_few first count f = grind (arith, nat_tests)

one_formed : (first count : ℕ) → count ≡ 1 → has_form first count ≡ true
one_formed first count e = grind (arith, nat_tests)

some_formed : (first count : ℕ) → count ≤ 10 → first ≢ 48 → has_form first count ≡ true
some_formed first count le apart = grind (arith, nat_tests)

-- what the digits of a number's form write is the number
pub record Reads (ds : List ℕ) : Type 0 where
  pub small : digits_number 0 ds < 10 ^ 10
  pub are : ds ≡ decimal (digits_number 0 ds)

pub few_digits : (ds : List ℕ) → has_form (get_or ds 0 0) (length ds) ≡ true → length ds ≤ 10
few_digits ds f = formed_few (get_or ds 0 0) (length ds) f

pub number_read : (ds : List ℕ) → 0 < length ds → has_form (get_or ds 0 0) (length ds) ≡ true → all_ascii_digits ds ≡ true → Reads ds
number_read ds some f d =
    let small : digits_number 0 ds < 10 ^ 10 = digits_value_short own ds 10 d (few_digits ds f) in
    record { small = small; are = sym (decimal-digits_value own ds d some (formed_lead (get_or ds 0 0) (length ds) f) (omega arith)) }

-- a number's digits have a number's form
pub record Writes (ds : List ℕ) : Type 0 where
  pub some : 0 < length ds
  pub formed : has_form (get_or ds 0 0) (length ds) ≡ true
  pub digits : all_ascii_digits ds ≡ true

decimal_formed : (n : ℕ) → n < 10 ^ 10 → n ≡ 0 ⊎ (0 < n) → has_form (get_or (decimal n) 0 0) (length (decimal n)) ≡ true
decimal_formed n small (inl e) = one_formed (get_or (decimal n) 0 0) (length (decimal n)) (ap length (decimal_digit n (omega arith)))
decimal_formed n small (inr lt) = let lead = first_decimal n lt (omega arith) in some_formed (get_or (decimal n) 0 0) (length (decimal n)) (length-decimal-le 10 n (omega arith) small (omega arith)) (omega arith)

zero_or_more : (n : ℕ) → n ≡ 0 ⊎ (0 < n)
zero_or_more zero = inl refl
zero_or_more (suc n) = inr (omega arith)

decimal_written : (n : ℕ) → n < 10 ^ 10 → Writes (decimal n)
decimal_written n small = record {
  some = decimal_nonempty n (omega arith);
  formed = decimal_formed n small (zero_or_more n);
  digits = digits_decimal own n (omega arith);
}

pub number_written : (ds : List ℕ) (n : ℕ) → n < 10 ^ 10 → ds ≡ decimal n → Writes ds
number_written ds n small e = subst Writes (sym e) (decimal_written n small)

pub number_again : (n : ℕ) → n < 10 ^ 10 → digits_number 0 (decimal n) ≡ n
number_again n small = digits_value-decimal own n (omega arith)
