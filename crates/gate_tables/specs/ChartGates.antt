-- The facts of the gates of a table's charts, and of a level's references and inline expressions, where references stand in each other less
-- than so deep.
use Rattle.std.specs.Prelude.{◌≡◌, ℕ, List}
use Rattle.msc_base.specs.declared.limits.TheConstants.Limits.{EXPANDED_NESTING}
use Rattle.msc_meaning.specs.Bodies.{WovenItems}
use Rattle.msc_meaning.specs.Tables.{Table}
use Rattle.gate_ends.specs.FoundEnds.{inner_of, inner_to}
use Rattle.gate_tables.specs.GateFacts.{facts_of}
use Rattle.gate_tables.specs.KeptMaps.{kept_of}
use Rattle.gate_tables.specs.declared.inner_facts.LevelFacts.{LevelFacts}
use Rattle.gate_tables.specs.declared.tables.GateTables.{GateTables}

-- of each gate of each chart of the table what is kept is the facts of its inner events
pub record AreGatesTo (table : Table) (depth : ℕ) (gates : GateTables) : Type 0 where
  pub found : (name gate : List ℕ) → kept_of gates.charts name gate ≡ facts_of (inner_to table depth name gate)

-- of each gate of the level's references and inline expressions
pub record AreFactsTo (table : Table) (depth : ℕ) (held : WovenItems) (facts : LevelFacts) : Type 0 where
  pub found : (name gate : List ℕ) → kept_of facts.named name gate ≡ facts_of (inner_of (inner_to table depth) held name gate)

-- as deep as an expansion goes

abbrev pub AreGatesOf : Table → GateTables → Type 0
AreGatesOf table gates = AreGatesTo table EXPANDED_NESTING gates

abbrev pub AreFactsOf : Table → WovenItems → LevelFacts → Type 0
AreFactsOf table held facts = AreFactsTo table EXPANDED_NESTING held facts
