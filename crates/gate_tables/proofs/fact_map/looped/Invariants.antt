use Rattle.gate_tables.specs.FactMaps.{at_gate, gate_count}
use Rattle.gate_tables.specs.Together.{looped_facts}
use Rattle.gate_tables.proofs.MapSteps.{AreMoved, in_place}
use Rattle.gate_tables.proofs.fact_map.looped.Given as goal

abbrev pub invariant-loop-seen : goal.invariant-loop-seen
invariant-loop-seen l = AreMoved (in_place looped_facts) (at_gate l.initial.made) (at_gate l.initial.map) (at_gate l.made) (at_gate l.map)

abbrev pub decreases-loop-seen : goal.decreases-loop-seen
decreases-loop-seen l = gate_count l.map
