use Rattle.gate_tables.specs.NamedMaps.{named_count}
use Rattle.gate_tables.proofs.NamedSteps.{AreKept}
use Rattle.gate_tables.proofs.named.NamedFacts.kept.Given as goal

abbrev pub invariant-loop-named : goal.invariant-loop-named
invariant-loop-named l = AreKept l.initial.left l.left l.kept

abbrev pub decreases-loop-named : goal.decreases-loop-named
decreases-loop-named l = named_count l.left
