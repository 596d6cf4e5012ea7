use Rattle.term_bench.proofs.Made.{chart_choice}
use Rattle.term_bench.proofs.charts.either.Goals as goal

pub returns : goal.returns
returns c = chart_choice _ _ _ _ c.in_ok-parts.ensures c.in_ok-term.ensures c.requires.first c.requires.second
