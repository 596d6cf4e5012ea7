-- Numbers of decimal digits.
use Rattle.std.proofs.Common.{◌≡◌, ◌∙◌, ◌≤◌, ◌<◌, ℕ, true, false, ◌&&◌, nat_le, List, [], ◌∷◌, length, Result, Ok, arith, sym, ap, rules}
use Rattle.std.specs.Str.{all_ascii_digits}
use Rattle.std.specs.Char.{is_ascii_digit}
use Rattle.std.specs.Str.Parse.{digits_value, ParsesUnsigned}
use Rattle.std.proofs.lemmas.Bool.{and_parts}
use Rattle.std.proofs.lemmas.Bool.Decides.{nat_tests}
use Rattle.std.proofs.lemmas.Str.Parse.{IsNumeralModel, numerals_by_value, parse_gives, digits_value_short}
use Rattle.msc_requests.specs.Requests.{is_number}

-- ---- digits, one by one

pub more_digits : (byte : ℕ) (rest others bytes : List ℕ) → rest ≡ byte ∷ others → is_ascii_digit byte ≡ true → all_ascii_digits rest ≡ all_ascii_digits bytes → all_ascii_digits others ≡ all_ascii_digits bytes
more_digits byte rest others bytes r d h = ap (λ b. b && all_ascii_digits others) (sym d) ∙ ap all_ascii_digits (sym r) ∙ h

pub first_mark : (byte : ℕ) (rest others bytes : List ℕ) → rest ≡ byte ∷ others → is_ascii_digit byte ≡ false → all_ascii_digits rest ≡ all_ascii_digits bytes → all_ascii_digits bytes ≡ false
first_mark byte rest others bytes r d h = sym h ∙ ap all_ascii_digits r ∙ ap (λ b. b && all_ascii_digits others) d

pub all_digits : (rest bytes : List ℕ) → rest ≡ [] → all_ascii_digits rest ≡ all_ascii_digits bytes → all_ascii_digits bytes ≡ true
all_digits rest bytes r h = sym h ∙ ap all_ascii_digits r

-- ---- the numbers that they write

own : IsNumeralModel (λ ds. all_ascii_digits ds ≡ true) (digits_value 10)
own = numerals_by_value _ (search rules)

-- a text of no more than so many digits is read as the number that they write
pub number_parsed : {E : Type 0} (digits : ℕ) (text : List ℕ) (r : Result ℕ E) → ParsesUnsigned 64 10 text r → digits ≤ 19 → is_number digits text ≡ true → r ≡ Ok (digits_value 10 text)
number_parsed digits text r h most s =
    let parts = and_parts (all_ascii_digits text) (nat_le 1 (length text) && nat_le (length text) digits) s in
    let lengths = and_parts (nat_le 1 (length text)) (nat_le (length text) digits) parts.1 in
    let some : 0 < length text = grind (arith, nat_tests) in
    let few : length text ≤ 19 = grind (arith, nat_tests) in
    let small = digits_value_short own text 19 parts.0 few in
    parse_gives own 64 text r h parts.0 some (omega (arith, small))
