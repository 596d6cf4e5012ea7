use Rattle.gate_tables.specs.FactMaps.{at_gate, gate_count}
use Rattle.gate_tables.proofs.MapSteps.{AreMoved, in_front}
use Rattle.gate_tables.proofs.fact_map.moved_in_front.Given as goal

abbrev pub invariant-loop-seen : goal.invariant-loop-seen
invariant-loop-seen l = AreMoved (in_front l.both) (at_gate l.initial.others) (at_gate l.initial.first) (at_gate l.others) (at_gate l.first)

abbrev pub decreases-loop-seen : goal.decreases-loop-seen
decreases-loop-seen l = gate_count l.first
