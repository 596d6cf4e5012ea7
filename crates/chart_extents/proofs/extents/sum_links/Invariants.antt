use Rattle.std.proofs.Common.{◌≡◌, drop, map}
use Rattle.chart_extents.specs.Capped.{sum_links}
use Rattle.chart_links.specs.LinkViews.{link_view}
use Rattle.chart_extents.proofs.extents.sum_links.Given as goal

abbrev pub invariant-loop-link : goal.invariant-loop-link
invariant-loop-link l = sum_links l.names l.values l.sum (map link_view (drop l.link-index l.links)) ≡ sum_links l.names l.values l.fn.own (map link_view l.links)
