use Rattle.term_bench.proofs.Made.{chart_message}
use Rattle.term_bench.proofs.charts.requests.Goals as goal

pub looped-requires-clause-body : goal.looped-requires-clause-body
looped-requires-clause-body c = chart_message _ c.in_ok-body.ensures
