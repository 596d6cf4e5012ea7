use Rattle.std.proofs.Common.{◌≤◌, length}
use Rattle.msc_document.proofs.part_reading.last_end.Given as goal

abbrev pub invariant-loop-last : goal.invariant-loop-last
invariant-loop-last l = length l.rest ≤ length l.text

abbrev pub decreases-loop-last : goal.decreases-loop-last
decreases-loop-last l = length l.rest
