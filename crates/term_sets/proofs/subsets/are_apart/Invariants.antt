use Rattle.std.proofs.Common.{take}
use Rattle.chart_term.specs.NormalForms.{begun}
use Rattle.msc_base.specs.Lists.{AreDifferent}
use Rattle.term_sets.proofs.subsets.are_apart.Given as goal

abbrev pub invariant-loop-index : goal.invariant-loop-index
invariant-loop-index l = AreDifferent (take l.index (begun l.parts))
