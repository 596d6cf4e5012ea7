use Rattle.std.proofs.Common.{take}
use Rattle.chart_term.specs.NormalForms.{begun}
use Rattle.chart_term.specs.Properties.{Each}
use Rattle.term_sets.specs.Subsets.{IsEvent}
use Rattle.term_sets.proofs.subsets.are_events.Given as goal

abbrev pub invariant-loop-index : goal.invariant-loop-index
invariant-loop-index l = Each IsEvent (take l.index (begun l.parts))
