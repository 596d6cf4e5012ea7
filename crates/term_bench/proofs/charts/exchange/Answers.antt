use Rattle.term_bench.proofs.Made.{chart_exchange}
use Rattle.term_bench.proofs.charts.exchange.Goals as goal

pub returns : goal.returns
returns c = chart_exchange _ _ _ _ _ _ c.in_ok-parts.ensures c.in_ok-output.ensures c.in_ok-input.ensures c.in_ok-answer.ensures c.in_ok-row.ensures c.in_ok-term.ensures
