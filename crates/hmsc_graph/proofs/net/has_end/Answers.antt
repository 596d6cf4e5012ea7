use Rattle.std.proofs.Common.{◌+◌, get_or, take, refl}
use Rattle.std.proofs.lemmas.List.{take_more}
use Rattle.hmsc_graph.proofs.MemberFacts.{in_at}
use Rattle.hmsc_graph.proofs.EdgeFacts.{no_end_more}
use Rattle.hmsc_graph.proofs.net.has_end.Goals as goal

pub bounds-ends-node : goal.bounds-ends-node
bounds-ends-node c = c.requires (get_or c.args.nodes.now c.loop-node.node-index 0) (in_at c.args.nodes.now c.loop-node.node-index c.loop-node-test.true)

pub returns-then-ends-node : goal.returns-then-ends-node
returns-then-ends-node c = (λ h. (get_or c.args.nodes.now c.loop-node.node-index 0, in_at c.args.nodes.now c.loop-node.node-index c.loop-node-test.true, c.if-ends-node.true), λ h. refl)

pub loop-node-preserved : goal.loop-node-preserved
loop-node-preserved c =
    no_end_more c.args.ends.now (take c.loop-node.node-index c.args.nodes.now) (take (c.loop-node.node-index + 1) c.args.nodes.now) (get_or c.args.nodes.now c.loop-node.node-index 0)
    (take_more c.args.nodes.now c.loop-node.node-index 0 c.loop-node-test.true) c.loop-node.invariant c.if-ends-node.false
