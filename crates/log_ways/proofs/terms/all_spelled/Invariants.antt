use Rattle.std.proofs.Common.{◌≡◌, map, take}
use Rattle.chart_term.specs.NormalForms.{begun}
use Rattle.log_ways.proofs.terms.all_spelled.Given as goal
use Rattle.term_sets.specs.Subsets.{spelled}

abbrev pub invariant-loop-word : goal.invariant-loop-word
invariant-loop-word l = l.terms.items ≡ map (spelled (begun l.events)) (take l.word-index l.words)
