use Rattle.gate_tables.specs.FactMaps.{at_gate, gate_count}
use Rattle.gate_tables.specs.GateFacts.{Facts}
use Rattle.gate_tables.specs.KeptMaps.{kept_gate}
use Rattle.gate_tables.proofs.MapSteps.{AreMoved, in_place}
use Rattle.gate_tables.proofs.kept.KeptMap.of.Given as goal

abbrev pub invariant-loop-seen : goal.invariant-loop-seen
invariant-loop-seen l = AreMoved (in_place (λ (x : Facts). x)) (kept_gate l.initial.kept) (at_gate l.initial.map) (kept_gate l.kept) (at_gate l.map)

abbrev pub decreases-loop-seen : goal.decreases-loop-seen
decreases-loop-seen l = gate_count l.map
