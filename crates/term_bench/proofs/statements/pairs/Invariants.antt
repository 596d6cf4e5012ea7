use Rattle.chart_term.specs.Views.{pairs_of}
use Rattle.sound_terms.specs.RisingRows.{DoRise}
use Rattle.term_bench.proofs.statements.pairs.Given as goal

abbrev pub invariant-loop-first : goal.invariant-loop-first
invariant-loop-first l = DoRise (pairs_of l.pairs)
