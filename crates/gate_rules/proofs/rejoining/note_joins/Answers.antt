use Rattle.std.proofs.Common.{◌++◌, []}
use Rattle.gate_rules.specs.GateRules.{joined_again}
use Rattle.gate_rules.proofs.RejoinLaws.{rejoined_more}
use Rattle.gate_rules.proofs.rejoining.note_joins.Goals as goal

pub loop-join-preserved : goal.loop-join-preserved
loop-join-preserved c =
    rejoined_more c.args.joins.now c.loop-join.join-index c.join-item.result c.loop-join.seen c.note_join.new.seen c.loop-join.places c.note_join.new.places (c.args.places.now ++ joined_again [] c.args.joins.now)
    c.loop-join-test.true c.join-item.is c.in_ok-note_join.ensures.seen c.in_ok-note_join.ensures.places c.loop-join.invariant
