use Rattle.term_firsts.proofs.Entering.{goes_on}
use Rattle.term_firsts.proofs.firsts.first_labels.Goals as goal

pub loop-preserved : goal.loop-preserved
loop-preserved c = goes_on c.args.nets.now.tables c.args.term.now c.in-Some.here c.loop.search c.next.new.self c.enter.new.search c.loop.invariant c.in-Some.ensures c.in_ok-enter.ensures
