use Rattle.std.proofs.Common.{◌∙◌, List, ℕ, ap, sym}
use Rattle.std.proofs.lemmas.Bool.{true≢false}
use Rattle.refinement_rules.specs.Walks.{HasBit}
use Rattle.msc_meaning.specs.Views.{entry_view, table_view}
use Rattle.msc_meaning.specs.declared.body.ChartEntry as code
use Rattle.refinement_rules.specs.Judging.{EnvNumber}
use Rattle.bit_sets.specs.Blocks.{has_bit}
use Rattle.chart_links.proofs.BitFacts.{none_had}
use Rattle.refinement_rules.proofs.Walked.{grown_none, grown_step, grown_whole}
use Rattle.refinement_rules.proofs.inside.env_charts.Goals as goal

pub loop-chart-init : goal.loop-chart-init
loop-chart-init c = grown_none (λ (x : code.ChartEntry). EnvNumber (table_view c.args.table.charts.now) c.args.tables.now.names (entry_view x)) (HasBit c.new-set.result) c.args.table.charts.now (λ n h. true≢false (sym h ∙ ap (λ (l : List ℕ). has_bit l n) c.new-set.ensures ∙ none_had n))

pub loop-chart-preserved : goal.loop-chart-preserved
loop-chart-preserved c =
    grown_step (λ (x : code.ChartEntry). EnvNumber (table_view c.args.table.charts.now) c.args.tables.now.names (entry_view x)) (λ n. ⊥) (HasBit c.loop-chart.set) (HasBit c.add_env_chart.new.set) c.args.table.charts.now c.loop-chart.chart-index c.chart-item.result c.loop-chart-test.true c.chart-item.is
    c.in_ok-add_env_chart.ensures c.loop-chart.invariant

pub returns : goal.returns
returns c = grown_whole (λ (x : code.ChartEntry). EnvNumber (table_view c.args.table.charts.now) c.args.tables.now.names (entry_view x)) (λ n. ⊥) (HasBit c.loop-chart.set) c.args.table.charts.now c.loop-chart.chart-index (λ n h. h) c.loop-chart-test.false c.loop-chart.invariant
