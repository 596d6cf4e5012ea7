use Rattle.std.proofs.Common.{◌≡◌, ◌++◌, drop}
use Rattle.chart_term.specs.NormalForms.{begun}
use Rattle.log_ways.proofs.terms.spelled.Given as goal
use Rattle.term_sets.specs.Subsets.{picked}

abbrev pub invariant-loop-index : goal.invariant-loop-index
invariant-loop-index l = l.parts ++ picked (drop l.index (begun l.events)) l.rest ≡ picked (begun l.events) l.word
