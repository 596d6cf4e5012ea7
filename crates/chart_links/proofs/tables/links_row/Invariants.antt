use Rattle.std.proofs.Common.{◌≡◌, ◌↔◌, ◌⊎◌, ℕ, true, drop, map}
use Rattle.bit_sets.specs.Blocks.{has_bit}
use Rattle.chart_links.specs.LinkViews.{link_view}
use Rattle.chart_links.specs.Tables.{LinksTo}
use Rattle.chart_links.proofs.tables.links_row.Given as goal

abbrev pub invariant-loop-link : goal.invariant-loop-link
invariant-loop-link l = (n : ℕ) → ((has_bit l.row n ≡ true) ⊎ LinksTo l.names (map link_view (drop l.link-index l.links)) n) ↔ LinksTo l.names (map link_view l.links) n
