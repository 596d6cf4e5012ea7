use Rattle.std.proofs.Common.{◌≡◌, ◌≤◌, Some, drop, length}
use Rattle.term_step.specs.Searches.{tail_of}
use Rattle.term_step.proofs.ascent.loops.put_turns.Given as goal

abbrev pub invariant-loop-index : goal.invariant-loop-index
invariant-loop-index l = record {
  within : l.index ≤ length l.parts;
  end : l.end ≡ tail_of (Some 0) (drop l.index l.parts) l.initial.end;
}

abbrev pub decreases-loop-index : goal.decreases-loop-index
decreases-loop-index l = l.index
