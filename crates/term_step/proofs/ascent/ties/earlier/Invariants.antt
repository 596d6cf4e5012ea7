use Rattle.std.proofs.Common.{◌≡◌, [], ◌-◌, length}
use Rattle.term_step.proofs.EarlierPairs.{IsAdded}
use Rattle.term_step.proofs.ascent.ties.earlier.Given as goal

abbrev pub invariant-loop-at : goal.invariant-loop-at
invariant-loop-at l = record {
  instances : l.block.instances ≡ [];
  added : IsAdded l.number l.pairs l.from l.block.events;
}

abbrev pub decreases-loop-at : goal.decreases-loop-at
decreases-loop-at l = length l.pairs - l.from
