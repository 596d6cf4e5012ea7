-- Linear orders of any positions, under any pairs of them.
use Rattle.std.specs.Prelude.{List, [], ◌∷◌}

-- p stands in the list
pub data Among {P : Type 0} (p : P) : List P → Type 0 where
  first : {l : List P} → Among p (p ∷ l)
  later : {q : P} {l : List P} → Among p l → Among p (q ∷ l)

-- nothing stands twice
abbrev pub Once : {P : Type 0} → List P → Type 0
Once [] = Unit {0}
Once (p ∷ l) = (Among p l → ⊥) × Once l

-- nothing stands behind what it is to come before
abbrev pub Kept : {P : Type 0} → (P → P → Type 0) → List P → Type 0
Kept B [] = Unit {0}
Kept B (p ∷ l) = ((q : _) → Among q (p ∷ l) → B q p → ⊥) × Kept B l

-- an arrangement of all positions, each once, in which p stands before q for each pair (p, q)
pub record IsLinear {P : Type 0} (B : P → P → Type 0) (l : List P) : Type 0 where
  pub every : (p : P) → Among p l
  pub once : Once l
  pub kept : Kept B l
