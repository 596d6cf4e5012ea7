use Rattle.std.proofs.Common.{◌≡◌, ◌++◌, None, drop, map}
use Rattle.gate_ends.specs.NameViews.{names_view}
use Rattle.chart_lists.specs.Listing.{as_listed}
use Rattle.chart_lists.proofs.listing.plain_instances.Given as goal

abbrev pub invariant-loop-instance : goal.invariant-loop-instance
invariant-loop-instance l = l.listed ++ map (λ n. as_listed n None) (names_view (drop l.instance-index l.names)) ≡ map (λ n. as_listed n None) (names_view l.names)
