-- What the sorting by counts keeps: how many of an item's edges still wait.
use Rattle.std.specs.Prelude.{◌≡◌, ℕ, ◌<◌, ◌+◌, Bool, true, false, List, [], ◌∷◌, ◌⊎◌, nat_eq, if◌then◌else◌}
use Rattle.column_order.specs.declared.edge.Edge.{Edge}

-- one of the edges leads from y to x
abbrev pub EdgeLeads : List Edge → ℕ → ℕ → Type 0
EdgeLeads [] y x = ⊥
EdgeLeads (e ∷ es) y x = ((e.from ≡ y) × (e.to ≡ x)) ⊎ EdgeLeads es y x

abbrev pub Inside : ℕ → Edge → Type 0
Inside n e = (e.from < n) × (e.to < n)

abbrev pub has : List ℕ → ℕ → Bool
has [] x = false
has (y ∷ ys) x = if nat_eq y x then true else has ys x

abbrev pub times : ℕ → List ℕ → ℕ
times x [] = 0
times x (y ∷ ys) = (if nat_eq y x then 1 else 0) + times x ys

-- how many edges lead to x from items that aren't in front
abbrev pub waiting : List Edge → List ℕ → ℕ → ℕ
waiting [] prefix x = 0
waiting (e ∷ es) prefix x = (if nat_eq e.to x then (if has prefix e.from then 0 else 1) else 0) + waiting es prefix x

-- where the edges from y lead
abbrev pub targets : List Edge → ℕ → List ℕ
targets [] y = []
targets (e ∷ es) y = if nat_eq e.from y then e.to ∷ targets es y else targets es y
