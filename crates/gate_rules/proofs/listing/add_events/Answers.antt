use Rattle.std.proofs.Common.{◌++◌, map, refl}
use Rattle.msc_meaning.specs.Views.{node_view}
use Rattle.gate_rules.specs.Callers.{callers_view}
use Rattle.gate_rules.specs.GateRules.{event_caller, events_callers}
use Rattle.gate_rules.proofs.Walks.{walk_more}
use Rattle.gate_rules.proofs.listing.add_events.Goals as goal

pub loop-node-preserved : goal.loop-node-preserved
loop-node-preserved c =
    walk_more (λ ns. events_callers (map node_view ns)) (λ n. event_caller (node_view n) n.event.target) (λ n ns. refl) c.args.nodes.now c.loop-node.node-index c.node-item.result
    (callers_view c.loop-node.callers.items) (callers_view c.add_event.new.callers.items) (callers_view c.args.callers.now.items ++ events_callers (map node_view c.args.nodes.now))
    c.loop-node-test.true c.node-item.is c.in_ok-add_event.ensures c.loop-node.invariant
