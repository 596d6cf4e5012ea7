use Rattle.std.proofs.Common.{◌≡◌, ◌++◌, take}
use Rattle.expanded_charts.specs.Expanding.{Shown}
use Rattle.expanded_charts.specs.GateNumbers.{HasNumbers}
use Rattle.expanded_charts.specs.GateTies.{ties_view}
use Rattle.expanded_charts.specs.TieNumbers.{gate_pairs}
use Rattle.expanded_charts.proofs.ties.push_ties.Given as goal

abbrev pub invariant-loop-tie : goal.invariant-loop-tie
invariant-loop-tie l = (seen : Shown) → HasNumbers l.gates seen → l.list ≡ l.fn.list ++ gate_pairs l.shown seen (ties_view (take l.tie-index l.ties))
