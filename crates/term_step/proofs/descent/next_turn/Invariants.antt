use Rattle.std.proofs.Common.{◌≤◌, ◌-◌, length}
use Rattle.term_step.proofs.Passes.{AreOver}
use Rattle.term_step.proofs.descent.next_turn.Given as goal

abbrev pub invariant-rows : goal.invariant-rows
invariant-rows l = record {
  behind : l.from ≤ l.at;
  over : AreOver l.nets.tables l.label l.turns.body.now l.turns.lower l.turns.upper l.turns.row.now l.from l.at;
}

abbrev pub decreases-rows : goal.decreases-rows
decreases-rows l = length l.turns.row.now - l.at
