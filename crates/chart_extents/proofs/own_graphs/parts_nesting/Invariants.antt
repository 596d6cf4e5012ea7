use Rattle.std.proofs.Common.{◌≡◌, max, drop}
use Rattle.chart_extents.specs.OwnExtents.{part_nesting}
use Rattle.graph_text.specs.GraphGathering.{deepest_part}
use Rattle.graph_text.specs.GraphPartViews.{parts_view}
use Rattle.chart_extents.proofs.own_graphs.parts_nesting.Given as goal

abbrev pub invariant-loop-held : goal.invariant-loop-held
invariant-loop-held l = max l.most (deepest_part part_nesting (parts_view (drop l.held-index l.parts))) ≡ deepest_part part_nesting (parts_view l.parts)
