-- Serves private contracts alone.
-- Ties at gates as the code has them.
use Rattle.std.specs.Prelude.{List, map}
use Rattle.msc_unfolding.specs.Unfoldings.{Tag, Own, On}
use Rattle.expanded_charts.specs.declared.gate_ties.GateTie.{GateTie}
use Rattle.expanded_charts.specs.declared.gate_ties.TieEnd.{TieEnd}
use Rattle.expanded_charts.specs.declared.gate_ties.TieEnd.TheVariants.{Event, Gate}

abbrev pub end_view : TieEnd → Tag
end_view (Event number) = Own number
end_view (Gate name gate) = On name.now gate.now

abbrev pub tie_view : GateTie → Tag × Tag
tie_view t = (end_view t.first, end_view t.second)

abbrev pub ties_view : List GateTie → List (Tag × Tag)
ties_view ts = map tie_view ts
