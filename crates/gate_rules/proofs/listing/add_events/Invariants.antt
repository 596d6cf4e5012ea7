use Rattle.std.proofs.Common.{◌≡◌, ◌++◌, drop, map}
use Rattle.msc_meaning.specs.Views.{node_view}
use Rattle.gate_rules.specs.Callers.{callers_view}
use Rattle.gate_rules.specs.GateRules.{events_callers}
use Rattle.gate_rules.proofs.listing.add_events.Given as goal

abbrev pub invariant-loop-node : goal.invariant-loop-node
invariant-loop-node l = callers_view l.callers.items ++ events_callers (map node_view (drop l.node-index l.nodes)) ≡ callers_view l.initial.callers.items ++ events_callers (map node_view l.nodes)
