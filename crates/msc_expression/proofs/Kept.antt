-- The value of digits, kept to a bound as they are read.
use Rattle.std.proofs.Common.{◌≡◌, ◌∙◌, ℕ, ◌+◌, ◌-◌, ◌*◌, ◌<◌, ◌≤◌, min, Bool, true, false, List, [], ◌∷◌, length, get_or, refl, sym, ⊎_elim, arith}
use Rattle.std.specs.Char.{digit_value}
use Rattle.std.specs.List.{list_all}
use Rattle.std.proofs.lemmas.Bool.{cases_lt}
use Rattle.std.proofs.lemmas.Bool.Decides.{nat_tests}
use Rattle.std.proofs.lemmas.List.Folds.{list_all_at}
use Rattle.token_grammar.specs.Classes.{is_digit}

-- a value that is kept to a bound stays so with one more digit
pub kept_step : (value digit cap : ℕ) → min (min value cap * 10 + digit) cap ≡ min (value * 10 + digit) cap
kept_step value digit cap = ⊎_elim
    (λ (small : value < cap). let same : min value cap ≡ value = omega arith in rw same refl)
    (λ (large : cap ≤ value). let same : min value cap ≡ cap = omega arith in rw same (omega arith))
    (cases_lt value cap)

pub digit_at : (digits : List ℕ) (i : ℕ) → list_all is_digit digits ≡ true → i < length digits → is_digit (get_or digits i 0) ≡ true
digit_at digits i all within = pick (is_digit (get_or digits i 0)) refl
  where
    pick : (b : Bool) → is_digit (get_or digits i 0) ≡ b → b ≡ true
    pick true e = refl
    pick false e = sym (list_all_at is_digit digits i 0 within e) ∙ all

pub value_of_digit : (d : ℕ) → is_digit d ≡ true → digit_value d ≡ d - 48
value_of_digit d e = grind (arith, nat_tests)
