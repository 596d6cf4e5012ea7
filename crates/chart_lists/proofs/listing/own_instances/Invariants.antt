use Rattle.std.proofs.Common.{◌≡◌, ◌++◌, List, ℕ, drop, map}
use Rattle.msc_meaning.specs.Tables.{refined_as}
use Rattle.chart_lists.specs.Listing.{as_listed}
use Rattle.chart_lists.proofs.listing.own_instances.Given as goal

abbrev pub invariant-loop-instance : goal.invariant-loop-instance
invariant-loop-instance l = l.listed ++ map (λ (n : List ℕ). as_listed n (refined_as l.decls n)) (drop l.instance-index l.names) ≡ map (λ (n : List ℕ). as_listed n (refined_as l.decls n)) l.names
