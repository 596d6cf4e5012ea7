use Rattle.std.proofs.Common.{◌≡◌, drop}
use Rattle.msc_meaning.specs.Tables.{chart_at}
use Rattle.msc_meaning.specs.Views.{table_view}
use Rattle.msc_acceptance.proofs.accepted.Accepted.chart_named.Given as goal

abbrev pub invariant-loop-chart : goal.invariant-loop-chart
invariant-loop-chart l = chart_at (table_view (drop l.chart-index l.chart-items)) l.name ≡ chart_at (table_view l.chart-items) l.name
