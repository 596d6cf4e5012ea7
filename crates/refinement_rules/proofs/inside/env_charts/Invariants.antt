use Rattle.refinement_rules.specs.Walks.{HasBit}
use Rattle.msc_meaning.specs.Views.{entry_view, table_view}
use Rattle.msc_meaning.specs.declared.body.ChartEntry as code
use Rattle.refinement_rules.specs.Judging.{EnvNumber}
use Rattle.refinement_rules.proofs.Walked.{IsWalked}
use Rattle.refinement_rules.proofs.inside.env_charts.Given as goal

abbrev pub invariant-loop-chart : goal.invariant-loop-chart
invariant-loop-chart l = IsWalked (λ (c : code.ChartEntry). EnvNumber (table_view l.table.charts.now) l.tables.names (entry_view c)) (λ n. ⊥) (HasBit l.set) l.table.charts.now l.chart-index
