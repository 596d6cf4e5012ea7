use Rattle.std.proofs.Common.{◌≡◌, ◌++◌, drop}
use Rattle.std.specs.List.{flat_map}
use Rattle.chart_links.specs.Links.{part_links}
use Rattle.graph_text.specs.GraphPartViews.{parts_view}
use Rattle.chart_links.proofs.graph_links.parts_of_graph.Given as goal

abbrev pub invariant-loop-held : goal.invariant-loop-held
invariant-loop-held l = l.links ++ flat_map part_links (parts_view (drop l.held-index l.parts)) ≡ l.initial.links ++ flat_map part_links (parts_view l.parts)
