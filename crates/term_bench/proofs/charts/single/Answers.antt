use Rattle.term_bench.proofs.Made.{chart_event}
use Rattle.term_bench.proofs.charts.single.Goals as goal

pub returns : goal.returns
returns c = chart_event _ _ _ _ c.in_ok-term.ensures c.requires.label c.requires.place
