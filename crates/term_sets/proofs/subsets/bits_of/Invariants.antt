use Rattle.chart_term.specs.NormalForms.{begun}
use Rattle.term_sets.proofs.Choosing.{AreBitsTo}
use Rattle.term_sets.proofs.subsets.bits_of.Given as goal

abbrev pub invariant-loop-index : goal.invariant-loop-index
invariant-loop-index l = AreBitsTo (begun l.events) l.label l.index l.bits.items
