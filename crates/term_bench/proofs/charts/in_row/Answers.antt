use Rattle.msc_base.specs.Patterns.{seq}
use Rattle.term_bench.proofs.Made.{chart_two, chart_join}
use Rattle.term_bench.proofs.charts.in_row.Goals as goal

pub returns : goal.returns
returns c = chart_join seq _ _ c.in_ok-term.ensures (chart_two _ _ _ c.in_ok-parts.ensures c.requires.first c.requires.second)
