-- The parts that a row holds.
use Rattle.std.specs.Prelude.{List, map}
use Rattle.chart_term.specs.declared.term.RowPart.{RowPart}
use Rattle.chart_term.specs.declared.term.RowPart.TheVariants as part
use Rattle.chart_term.specs.Terms.{Part, Gap, Turn}

-- a gap with the instances of its block, or a begun turn
abbrev pub part_of : RowPart → Part
part_of (part.Gap b) = Gap b.instances
part_of (part.Turn x) = Turn x

-- the parts of a row
abbrev pub parts_of : List RowPart → List Part
parts_of ps = map part_of ps
