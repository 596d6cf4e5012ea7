-- Serves private contracts alone.
-- Numbers in decimal digits.
use Rattle.std.specs.Prelude.{ℕ, ◌+◌, ◌-◌, ◌*◌, Bool, ◌&&◌, ◌||◌, not, nat_eq, nat_le, List, [], ◌∷◌}

-- the number that digits go on to behind this one
abbrev pub digits_number : ℕ → List ℕ → ℕ
digits_number n [] = n
digits_number n (digit ∷ digits) = digits_number (10 * n + (digit - 48)) digits

-- ten digits at most, and a single one where the first is zero
abbrev pub has_form : ℕ → ℕ → Bool
has_form first count = nat_eq count 1 || (nat_le count 10 && not (nat_eq first 48))
