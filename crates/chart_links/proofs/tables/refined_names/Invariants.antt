use Rattle.std.proofs.Common.{◌↔◌, ◌⊎◌, ℕ, List, drop, map}
use Rattle.chart_links.specs.LinkViews.{link_view}
use Rattle.chart_links.specs.Links.{IsRefined}
use Rattle.msc_base.specs.Lists.{IsAmong}
use Rattle.chart_links.proofs.tables.refined_names.Given as goal

abbrev pub invariant-loop-link : goal.invariant-loop-link
invariant-loop-link l = (n : List ℕ) → (IsAmong l.table n ⊎ IsRefined (map link_view (drop l.link-index l.links)) n) ↔ IsRefined (map link_view l.links) n
