use Rattle.msc_base.specs.Patterns.{par}
use Rattle.term_bench.proofs.Made.{chart_three, chart_join}
use Rattle.term_bench.proofs.towers.beside_actions.Goals as goal

pub returns : goal.returns
returns c = chart_join par _ _ c.in_ok-term.ensures (chart_three _ _ _ _ c.in_ok-parts.ensures c.requires c.in_ok-first.ensures c.in_ok-second.ensures)
