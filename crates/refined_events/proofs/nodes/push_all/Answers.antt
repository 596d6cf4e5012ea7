use Rattle.std.proofs.Common.{◌+◌, ◌++◌, ◌∙◌, List, ap, drop, map, refl}
use Rattle.std.specs.Borrow.{Bor}
use Rattle.msc_meaning.specs.Views.{node_view}
use Rattle.msc_meaning.specs.declared.body.EventNode.{EventNode}
use Rattle.refined_events.specs.MatchViews.{nodes_view}
use Rattle.refined_events.proofs.Walks.{pushed_left}
use Rattle.refined_events.proofs.nodes.push_all.Goals as goal

pub loop-node-preserved : goal.loop-node-preserved
loop-node-preserved c =
    ap (λ (l : List (Bor EventNode)). nodes_view l ++ map node_view (drop (c.loop-node.node-index + 1) c.args.nodes.now)) c.in_ok-push.ensures.items
    ∙ pushed_left c.loop-node.list.items _ c.args.nodes.now c.loop-node.node-index c.node-item.result c.loop-node-test.true c.node-item.is refl
    ∙ c.loop-node.invariant
