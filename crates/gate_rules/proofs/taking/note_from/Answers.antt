use Rattle.std.proofs.Common.{◌++◌, []}
use Rattle.gate_rules.specs.Callers.{callers_view}
use Rattle.gate_rules.specs.GateRules.{taken_from}
use Rattle.gate_rules.proofs.TakenLaws.{noted_more}
use Rattle.gate_rules.proofs.taking.note_from.Goals as goal

pub loop-caller-preserved : goal.loop-caller-preserved
loop-caller-preserved c =
    noted_more c.args.callers.now c.loop-caller.caller-index c.caller-item.result c.loop-caller.seen c.note_one.new.seen c.loop-caller.places c.note_one.new.places (c.args.places.now ++ taken_from [] (callers_view c.args.callers.now))
    c.loop-caller-test.true c.caller-item.is c.in_ok-note_one.ensures.places c.in_ok-note_one.ensures.seen c.loop-caller.invariant
