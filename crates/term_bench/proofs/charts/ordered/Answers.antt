use Rattle.term_bench.proofs.Made.{chart_ordered}
use Rattle.term_bench.proofs.charts.ordered.Goals as goal

pub returns : goal.returns
returns c = chart_ordered _ _ _ _ _ _ c.in_ok-parts.ensures c.in_ok-first.ensures c.in_ok-second.ensures c.in_ok-other.ensures c.in_ok-aside.ensures c.in_ok-term.ensures
