-- Each chart is two levels of nesting at least.
use Rattle.std.proofs.Common.{◌≤◌, max, List, [], arith}
use Rattle.std.proofs.Math.Nat.{le-max_left}
use Rattle.chart_extents.specs.OwnExtents.{content_nesting, own_extent, part_nesting}
use Rattle.chart_text.specs.Texts.{chart_text}
use Rattle.graph_text.specs.GraphGathering.{deepest_part}
use Rattle.graph_text.specs.GraphTexts.{lines_parts}
use Rattle.msc_tree.specs.Charts.{Chart, Content, Basic, HighLevel}
use Rattle.msc_tree.specs.Graphs.{graph}

pub two_levels : (c : Chart) → 2 ≤ (own_extent c).nesting
two_levels c = by c.content
  where
    by : (x : Content) → 2 ≤ content_nesting x (chart_text c)
    by (Basic held) = omega arith
    by (HighLevel (graph starts held)) = le-max_left 2 (deepest_part part_nesting (lines_parts 2 held))
