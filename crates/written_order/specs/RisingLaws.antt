-- The law of charts that are written in order.
use Rattle.std.specs.Prelude.{ℕ, List}
use Rattle.expansion_order.specs.Ranks.{CanBeRanked}
use Rattle.expanded_charts.specs.Expanding.{expansion}
use Rattle.expanded_charts.specs.Numbering.{numbered_by}
use Rattle.expanded_charts.specs.declared.numbering.Numbering.{Numbering}
use Rattle.msc_meaning.specs.Bodies.{WovenItems}
use Rattle.msc_meaning.specs.InnerEvents.{GateEnd}
use Rattle.msc_meaning.specs.Tables.{Table}
use Rattle.written_order.specs.Rising.{IsRisingTo}

-- the events of its expansion have ranks, wherever the gates of other charts lead: their numbers
pub record RisingChartsAreRanked : Type 0 where
  pub ranked : (ends_of : WovenItems → List GateEnd) (table : Table) (depth : ℕ) (name : List ℕ) (s : Numbering) → IsRisingTo table depth name → CanBeRanked (numbered_by s (expansion ends_of table depth name))
