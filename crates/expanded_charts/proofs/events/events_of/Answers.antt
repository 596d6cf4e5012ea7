use Rattle.std.proofs.Common.{List, map, subst}
use Rattle.msc_meaning.specs.Views.{node_view}
use Rattle.msc_meaning.specs.declared.body.EventNode as rust_event
use Rattle.level_surroundings.specs.Givens.{around_view}
use Rattle.expanded_charts.specs.Making.{AreMade, events_parts}
use Rattle.expanded_charts.proofs.Loops.{events_step, taken_all}
use Rattle.expanded_charts.proofs.events.events_of.Goals as goal

pub loop-node-init : goal.loop-node-init
loop-node-init c = λ table depth. c.no_parts-parts.ensures c.args.numbering.now

pub loop-node-preserved : goal.loop-node-preserved
loop-node-preserved c = λ table depth.
    events_step table depth c.args.level.called.now (around_view c.args.level.given) c.args.numbering.now c.loop-node.numbering c.event_of.new.numbering c.args.next c.loop-node.parts c.in_ok-made.made c.add.new.parts c.in_ok-add.ensures c.args.nodes.now c.loop-node.node-index
    c.node-item.result c.loop-node-test.true c.node-item.is (c.loop-node.invariant table depth) c.in_ok-made.ensures

pub returns : goal.returns
returns c = λ table depth.
    subst (λ (l : List rust_event.EventNode). AreMade c.args.numbering.now c.loop-node.numbering (events_parts table depth c.args.level.called.now (around_view c.args.level.given) c.args.next (map node_view l)) c.loop-node.parts)
    (taken_all c.args.nodes.now c.loop-node.node-index c.loop-node-test.false) (c.loop-node.invariant table depth)
