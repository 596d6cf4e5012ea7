use Rattle.std.proofs.Common.{arith}
use Rattle.term_firsts.proofs.Entering.{all_children, child_entered}
use Rattle.term_firsts.proofs.firsts.enter_children.Goals as goal

pub loop-index-preserved : goal.loop-index-preserved
loop-index-preserved c = child_entered c.args.nets.now.tables c.args.term.now c.loop-index.index c.args.search.now c.loop-index.search c.enter_child.new.search c.loop-index.invariant c.in_ok-enter_child.ensures

pub returns : goal.returns
returns c = all_children c.args.nets.now.tables c.requires.tables c.args.term.now c.loop-index.index c.args.search.now c.loop-index.search c.requires.term (omega (arith, c.child_count-index-end.ensures, c.loop-index-test.false)) c.loop-index.invariant
