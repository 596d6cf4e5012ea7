use Rattle.gate_rules.specs.Callers.{caller_view}
use Rattle.gate_rules.proofs.TakenLaws.{seen_on}
use Rattle.gate_rules.proofs.taking.note_one.Goals as goal

pub returns-clause-seen : goal.returns-clause-seen
returns-clause-seen c = seen_on c.add.result (caller_view c.args.caller) c.args.seen.now c.add.new.self c.add.ensures.claimed c.add.ensures.called
