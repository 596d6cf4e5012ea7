use Rattle.term_firsts.proofs.Entering.{meet_part, on_ok}
use Rattle.term_firsts.proofs.firsts.enter_part.Goals as goal

pub returns-clause-enters : goal.returns-clause-enters
returns-clause-enters c = on_ok c.meet.result c.meet.ensures (λ m w r. meet_part w c.args.part.now c.in-Some.shown.label c.in-Some.shown.at c.args.held.now.nodes c.hold.new.held.nodes c.args.search.now c.meet.new.self c.in-Some.ensures.some m c.hold.ensures.nodes)
