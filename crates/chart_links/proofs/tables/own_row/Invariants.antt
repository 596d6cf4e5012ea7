use Rattle.std.proofs.Common.{◌≡◌, ◌↔◌, ◌⊎◌, ℕ, true, drop, map}
use Rattle.bit_sets.specs.Blocks.{has_bit}
use Rattle.chart_links.specs.LinkViews.{link_view}
use Rattle.chart_links.specs.Tables.{OwnAmong}
use Rattle.chart_links.proofs.tables.own_row.Given as goal

abbrev pub invariant-loop-instance : goal.invariant-loop-instance
invariant-loop-instance l =
    (n : ℕ) → ((has_bit l.row n ≡ true) ⊎ OwnAmong l.known (map link_view l.links) (drop l.instance-index l.instances) n) ↔ OwnAmong l.known (map link_view l.links) l.instances n
