use Rattle.std.proofs.Common.{◌≡◌, ◌++◌, [], drop}
use Rattle.gate_rules.specs.GateRules.{joined_again}
use Rattle.gate_rules.proofs.rejoining.note_joins.Given as goal

abbrev pub invariant-loop-join : goal.invariant-loop-join
invariant-loop-join l = l.places ++ joined_again l.seen (drop l.join-index l.joins) ≡ l.initial.places ++ joined_again [] l.joins
