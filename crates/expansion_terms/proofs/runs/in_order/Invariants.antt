use Rattle.std.proofs.Common.{◌≡◌, ◌≤◌, drop, length}
use Rattle.expansion_terms.specs.ExceptionRuns.{turned}
use Rattle.expansion_terms.proofs.runs.in_order.Given as goal

abbrev pub invariant-loop-index : goal.invariant-loop-index
invariant-loop-index l = record { within : l.index ≤ length l.fronts; are : l.parts ≡ turned (drop l.index l.fronts) }

abbrev pub decreases-loop-index : goal.decreases-loop-index
decreases-loop-index l = l.index
