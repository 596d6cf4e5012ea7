use Rattle.std.proofs.Common.{Some}
use Rattle.msc_meaning.specs.Calls.{is_called}
use Rattle.gate_tables.specs.FactMaps.{at_gate, gate_count}
use Rattle.gate_tables.proofs.MapSteps.{AreMoved, unless_so}
use Rattle.gate_tables.proofs.levels.uncalled_of.Given as goal

abbrev pub invariant-loop-seen : goal.invariant-loop-seen
invariant-loop-seen l = AreMoved (unless_so (is_called l.calls (Some l.name))) (at_gate l.initial.made) (at_gate l.initial.of) (at_gate l.made) (at_gate l.of)

abbrev pub decreases-loop-seen : goal.decreases-loop-seen
decreases-loop-seen l = gate_count l.of
