use Rattle.msc_base.specs.Lists.{IsAmong}
use Rattle.msc_meaning.specs.Views.{entry_view, table_view}
use Rattle.msc_meaning.specs.declared.body.ChartEntry as code
use Rattle.refinement_rules.specs.Judging.{EntryInside}
use Rattle.refinement_rules.proofs.Walked.{IsWalked}
use Rattle.refinement_rules.proofs.inside.inside_charts.Given as goal

abbrev pub invariant-loop-chart : goal.invariant-loop-chart
invariant-loop-chart l = IsWalked (λ (c : code.ChartEntry). EntryInside (table_view l.table.charts.now) l.tables.names l.tables.reach.items (entry_view c)) (λ n. ⊥) (IsAmong l.inside) l.table.charts.now l.chart-index
