-- The ends of the called gates of the levels of a table.
use Rattle.std.specs.Prelude.{List}
use Rattle.msc_meaning.specs.Bodies.{WovenItems}
use Rattle.msc_meaning.specs.InnerEvents.{GateEnd}
use Rattle.msc_meaning.specs.Tables.{Table}
use Rattle.gate_ends.specs.FoundEnds.{table_ends}

-- the same, opened where that is needed alone, since the depth of the table's is a large number
unfoldable pub ends_in : Table → WovenItems → List GateEnd
ends_in table held = table_ends table held
