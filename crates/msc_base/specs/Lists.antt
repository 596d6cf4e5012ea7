-- Membership in lists.
use Rattle.std.specs.Prelude.{◌≡◌, ◌⊎◌, ℕ, List, [], ◌∷◌}

-- x stands in the list
abbrev pub IsAmong : {A : Type 0} → List A → A → Type 0
IsAmong [] x = ⊥
IsAmong (y ∷ ys) x = (x ≡ y) ⊎ IsAmong ys x

-- the same of numbers, with the number in front
abbrev pub IsIn : ℕ → List ℕ → Type 0
IsIn m ks = IsAmong ks m

-- nothing stands twice
abbrev pub AreDifferent : {A : Type 0} → List A → Type 0
AreDifferent [] = Unit {0}
AreDifferent (x ∷ xs) = (IsAmong xs x → ⊥) × AreDifferent xs
