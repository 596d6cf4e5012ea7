use Rattle.chart_term.specs.Properties.{Each}
use Rattle.term_bench.specs.Charts.{IsChart}
use Rattle.term_bench.proofs.charts.singles.Given as goal

abbrev pub invariant-loop-number : goal.invariant-loop-number
invariant-loop-number l = Each IsChart l.parts
