use Rattle.std.proofs.Common.{◌+◌, ◌≡◌, get_or, take, refl, true}
use Rattle.std.proofs.lemmas.List.{take_more}
use Rattle.hmsc_graph.proofs.MemberFacts.{in_at}
use Rattle.term_permission.proofs.PassingFacts.{no_common_more}
use Rattle.term_permission.proofs.passing.has_one_of.Goals as goal

pub returns-then-has : goal.returns-then-has
returns-then-has c = (λ h. (get_or c.args.nodes.now c.loop-node.node-index 0, in_at c.args.nodes.now c.loop-node.node-index c.loop-node-test.true, c.has.ensures.has.0 c.if-has.true), λ h. refl)

pub loop-node-preserved : goal.loop-node-preserved
loop-node-preserved c =
    no_common_more (take c.loop-node.node-index c.args.nodes.now) (take (c.loop-node.node-index + 1) c.args.nodes.now) c.args.set.now.nodes (get_or c.args.nodes.now c.loop-node.node-index 0)
    (take_more c.args.nodes.now c.loop-node.node-index 0 c.loop-node-test.true) c.loop-node.invariant (λ h. let q : c.has.result ≡ true = c.has.ensures.has.1 h in cc)
