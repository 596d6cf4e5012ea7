-- Serves private contracts alone.
-- What tables know of the parts of a level that were met.
use Rattle.std.specs.Prelude.{◌≡◌, ◌⊎◌, ◌↔◌, ℕ, List, [], ◌∷◌, Option, Some, None}
use Rattle.msc_base.specs.Lists.{IsAmong}
use Rattle.msc_instances.specs.declared.again.Met.{Met}
use Rattle.msc_instances.specs.declared.again.PartKey.{PartKey}
use Rattle.msc_instances.specs.Parts.{NamedPart}

-- one of the parts has the name
abbrev pub HasName : List NamedPart → List ℕ → Type 0
HasName [] n = ⊥
HasName (b ∷ before) n = (b.name ≡ n) ⊎ HasName before n

-- and stands in that column, or outside columns
abbrev pub HasPart : List NamedPart → List ℕ → Option (List ℕ) → Type 0
HasPart [] n c = ⊥
HasPart (b ∷ before) n c = ((b.name ≡ n) × (b.column ≡ c)) ⊎ HasPart before n c

-- one of the keys is of that name and column
abbrev pub HasKey : List PartKey → List ℕ → List ℕ → Type 0
HasKey [] n c = ⊥
HasKey (k ∷ keys) n c = ((k.name.items ≡ n) × (k.column.items ≡ c)) ⊎ HasKey keys n c

-- the tables know these parts
pub record Knows (met : Met) (before : List NamedPart) : Type 0 where
  pub names : (n : List ℕ) → IsAmong met.names n ↔ HasName before n
  pub outside : (n : List ℕ) → IsAmong met.outside n ↔ HasPart before n None
  pub inside : (n c : List ℕ) → HasKey met.inside.keys n c ↔ HasPart before n (Some c)
