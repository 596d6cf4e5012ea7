use Rattle.std.proofs.Common.{◌≤◌, drop, length}
use Rattle.gate_ends.specs.CallViews.{AreFirst, calls_view}
use Rattle.gate_ends.proofs.calls.first_callers.Given as goal

abbrev pub invariant-loop-left : goal.invariant-loop-left
invariant-loop-left l = record {
  low : l.left ≤ length l.calls;
  first : AreFirst l.first (calls_view (drop l.left l.calls));
}

abbrev pub decreases-loop-left : goal.decreases-loop-left
decreases-loop-left l = l.left
