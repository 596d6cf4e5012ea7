use Rattle.std.proofs.Common.{◌≡◌, drop, fold, map}
use Rattle.chart_links.specs.LinkViews.{link_view}
use Rattle.chart_links.specs.Links.{linked}
use Rattle.msc_base.specs.NameTables.{with_name}
use Rattle.msc_acceptance.proofs.graphs.add_linked.Given as goal

abbrev pub invariant-loop-link : goal.invariant-loop-link
invariant-loop-link l = fold with_name l.names (map linked (map link_view (drop l.link-index l.links))) ≡ fold with_name l.initial.names (map linked (map link_view l.links))
