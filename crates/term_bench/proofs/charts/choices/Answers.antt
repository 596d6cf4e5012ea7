use Rattle.msc_base.specs.Patterns.{seq}
use Rattle.term_bench.proofs.Made.{chart_join}
use Rattle.term_bench.proofs.charts.choices.Goals as goal

pub returns : goal.returns
returns c = chart_join seq _ _ c.in_ok-term.ensures c.in_ok-parts.ensures
