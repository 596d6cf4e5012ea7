use Rattle.std.proofs.Common.{◌++◌, [], drop}
use Rattle.gate_rules.specs.Callers.{callers_view}
use Rattle.gate_rules.specs.GateRules.{taken_from}
use Rattle.gate_rules.proofs.TakenLaws.{IsNotedFrom}
use Rattle.gate_rules.proofs.taking.note_from.Given as goal

abbrev pub invariant-loop-caller : goal.invariant-loop-caller
invariant-loop-caller l = IsNotedFrom l.seen l.places (l.initial.places ++ taken_from [] (callers_view l.callers)) (callers_view (drop l.caller-index l.callers))
