-- 'This and no other', and 'none'.
use Rattle.std.specs.Prelude.{◌≡◌}

-- the fact holds of this value and of no other
pub record Only {A : Type 0} (P : A → Type 0) (x : A) : Type 0 where
  pub holds : P x
  pub alone : (y : A) → P y → y ≡ x

-- the fact holds of no value
abbrev pub Never : {A : Type 0} → (A → Type 0) → Type 0
Never {A} P = (x : A) → P x → ⊥
