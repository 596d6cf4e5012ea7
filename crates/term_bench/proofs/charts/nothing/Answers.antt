use Rattle.term_bench.proofs.Made.{chart_nil}
use Rattle.term_bench.proofs.charts.nothing.Goals as goal

pub returns : goal.returns
returns c = chart_nil _ c.in_ok-term.ensures
