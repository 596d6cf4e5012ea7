use Rattle.gate_tables.specs.FactMaps.{at_gate, gate_count}
use Rattle.gate_tables.proofs.MapSteps.{AreMoved, behind}
use Rattle.gate_tables.proofs.fact_map.moved_behind.Given as goal

abbrev pub invariant-loop-seen : goal.invariant-loop-seen
invariant-loop-seen l = AreMoved (behind l.both) (at_gate l.initial.first) (at_gate l.initial.others) (at_gate l.first) (at_gate l.others)

abbrev pub decreases-loop-seen : goal.decreases-loop-seen
decreases-loop-seen l = gate_count l.others
