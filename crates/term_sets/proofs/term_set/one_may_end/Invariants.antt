use Rattle.std.proofs.Common.{take}
use Rattle.trace_judge.specs.Sets.{HasEnding}
use Rattle.term_sets.proofs.term_set.one_may_end.Given as goal

abbrev pub invariant-loop-index : goal.invariant-loop-index
invariant-loop-index l = HasEnding l.nets (take l.index l.terms) → ⊥
