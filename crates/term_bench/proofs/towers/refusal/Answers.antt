use Rattle.term_bench.proofs.Made.{chart_refusal}
use Rattle.term_bench.proofs.towers.refusal.Goals as goal

pub returns : goal.returns
returns c = chart_refusal _ c.in_ok-term.ensures
