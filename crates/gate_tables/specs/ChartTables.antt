-- Serves private contracts alone.
-- The facts of some of the charts of a table, where references stand in each other less than so deep.
use Rattle.std.specs.Prelude.{◌≡◌, ℕ, true, List}
use Rattle.msc_meaning.specs.Tables.{Table}
use Rattle.gate_ends.specs.FoundEnds.{inner_to}
use Rattle.gate_tables.specs.GateFacts.{facts_of}
use Rattle.gate_tables.specs.KeptMaps.{has_name, kept_of}
use Rattle.gate_tables.specs.declared.kept.KeptMaps.{KeptMaps}

abbrev pub HasFacts : KeptMaps → List ℕ → Type 0
HasFacts known name = has_name known name ≡ true

-- what is known of charts is so
pub record AreSomeOf (table : Table) (depth : ℕ) (known : KeptMaps) : Type 0 where
  pub right : (name g : List ℕ) → HasFacts known name → kept_of known name g ≡ facts_of (inner_to table depth name g)

-- more charts are known
pub record Grows (table : Table) (depth : ℕ) (old new : KeptMaps) : Type 0 where
  pub right : AreSomeOf table depth new
  pub kept : (name : List ℕ) → HasFacts old name → HasFacts new name
