-- Tables in which no inner event of a called gate stands in a loop.
use Rattle.std.specs.Prelude.{◌≡◌, []}
use Rattle.msc_base.specs.declared.limits.TheConstants.Limits.{EXPANDED_NESTING}
use Rattle.msc_base.specs.Orders.{Among}
use Rattle.gate_ends.specs.FoundEnds.{GoesTo, chart_gates, inner_of, looped}
use Rattle.gate_ends.specs.LevelGates.{items_in}
use Rattle.msc_meaning.specs.Bodies.{WovenItems}
use Rattle.msc_meaning.specs.BodyLevels.{BodyLevel, EachLevel, body_levels}
use Rattle.msc_meaning.specs.Calls.{Call, calls}
use Rattle.msc_meaning.specs.Tables.{Table, ChartEntry, Woven, Basic, HighLevel}

-- on a level
abbrev pub HasQuietGates : Table → WovenItems → Type 0
HasQuietGates table held = (c : Call) → Among c (calls held) → looped (inner_of (chart_gates table) held c.name c.gate) ≡ []

abbrev pub IsQuietLevel : Table → BodyLevel → Type 0
IsQuietLevel table l = HasQuietGates table (items_in l.body)

-- on each level of a basic chart, from which references stand in each other no deeper than the limit
abbrev pub IsQuietWoven : Table → Woven → Type 0
IsQuietWoven table (Basic held) = EachLevel (IsQuietLevel table) (body_levels held)
IsQuietWoven table (HighLevel drawn) = Unit {0}

pub record IsQuietChart (table : Table) (c : ChartEntry) : Type 0 where
  pub deep : GoesTo table EXPANDED_NESTING c.name
  pub quiet : IsQuietWoven table c.content

-- of each chart
abbrev pub IsQuietTable : Table → Type 0
IsQuietTable table = (c : ChartEntry) → Among c table → IsQuietChart table c
