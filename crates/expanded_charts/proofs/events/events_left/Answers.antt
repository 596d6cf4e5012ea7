use Rattle.std.proofs.Common.{List, map, subst, sym, take}
use Rattle.msc_meaning.specs.Bodies.{EventNode}
use Rattle.msc_meaning.specs.Refinements.{left_of}
use Rattle.msc_meaning.specs.Views.{node_view}
use Rattle.msc_meaning.specs.declared.body.EventNode as rust_event
use Rattle.level_surroundings.specs.Givens.{around_view}
use Rattle.expanded_charts.specs.Making.{AreMade, events_parts}
use Rattle.expanded_charts.proofs.LeftParts.{left_events_more}
use Rattle.expanded_charts.proofs.Loops.{taken_all}
use Rattle.expanded_charts.proofs.events.events_left.Goals as goal

pub loop-node-init : goal.loop-node-init
loop-node-init c = λ table depth. c.no_parts-parts.ensures c.args.numbering.now

pub loop-node-preserved : goal.loop-node-preserved
loop-node-preserved c = λ table depth.
    let rs = c.args.decomposed.now in
    subst (λ (ks : List EventNode). AreMade c.args.numbering.now c.add_left.new.numbering (events_parts table depth c.args.level.called.now (around_view c.args.level.given) c.args.next ks) c.add_left.new.parts)
    (sym (left_events_more rs c.args.nodes.now c.loop-node.node-index c.node-item.result c.loop-node-test.true c.node-item.is))
    (c.in_ok-add_left.ensures table depth c.args.numbering.now c.args.next (left_of rs (map node_view (take c.loop-node.node-index c.args.nodes.now))) (c.loop-node.invariant table depth))

pub returns : goal.returns
returns c = λ table depth.
    subst (λ (l : List rust_event.EventNode). AreMade c.args.numbering.now c.loop-node.numbering (events_parts table depth c.args.level.called.now (around_view c.args.level.given) c.args.next (left_of c.args.decomposed.now (map node_view l))) c.loop-node.parts)
    (taken_all c.args.nodes.now c.loop-node.node-index c.loop-node-test.false) (c.loop-node.invariant table depth)
