use Rattle.std.proofs.Common.{◌≡◌, ◌+◌, drop}
use Rattle.chart_extents.specs.OwnExtents.{part_size}
use Rattle.graph_text.specs.GraphGathering.{summed_parts}
use Rattle.graph_text.specs.GraphPartViews.{parts_view}
use Rattle.chart_extents.proofs.own_graphs.parts_size.Given as goal

abbrev pub invariant-loop-held : goal.invariant-loop-held
invariant-loop-held l = l.total + summed_parts part_size (parts_view (drop l.held-index l.parts)) ≡ summed_parts part_size (parts_view l.parts)
