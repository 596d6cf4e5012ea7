use Rattle.std.proofs.Common.{◌≡◌, ◌∙◌, ℕ, List, ap, map, subst, sym, true}
use Rattle.std.proofs.lemmas.Result.{IfOk-weaker}
use Rattle.chart_text.proofs.StandingLaws.{each_right}
use Rattle.chart_text.specs.Texts.{a_head, content_text}
use Rattle.chart_text.specs.WellFormed.{AreWellFormed, is_well_formed}
use Rattle.level_gathering.specs.Gathered.{IsGatheredLevel}
use Rattle.level_gathering.specs.GatheredCharts.{IsGatheredChart, a_basic}
use Rattle.level_gathering.specs.ReferenceViews.{lists_view}
use Rattle.level_gathering.specs.declared.charts.GatheredChart.{GatheredChart}
use Rattle.msc_meaning.specs.Pieces.{statements_pieces}
use Rattle.msc_meaning.specs.Views.{body_view}
use Rattle.msc_tree.specs.Charts.{Basic, Chart, Content}
use Rattle.msc_tree.specs.Statements.{Statement, statements}
use Rattle.msc_tree.specs.Views.{chart_view, content_view, graph_view, statement_view}
use Rattle.level_gathering.proofs.charts.gathered_chart.Goals as goal

pub gathered_statements-requires : goal.gathered_statements-requires
gathered_statements-requires c =
    let chart : Chart = chart_view c.args.chart.now in
    let content : chart.content ≡ Basic (map statement_view c.as_slice.result.now) = ap content_view c.in-Events.is ∙ ap (λ l. Basic (map statement_view l)) (sym c.as_slice.ensures.value) in
    subst (λ (x : Content). AreWellFormed (content_text x)) content (each_right (λ p. is_well_formed p ≡ true) (map a_head chart.decls) (content_text chart.content) c.requires.formed)

pub returns-in-Events : goal.returns-in-Events
returns-in-Events c =
    let chart : Chart = chart_view c.args.chart.now in
    let held : List Statement = map statement_view c.as_slice.result.now in
    let names : List (List ℕ) = c.args.names.now in
    let content : chart.content ≡ Basic held = ap content_view c.in-Events.is ∙ ap (λ l. Basic (map statement_view l)) (sym c.as_slice.ensures.value) in
    IfOk-weaker c.gathered_statements.result (λ (one : GatheredChart). IsGatheredLevel names (statements_pieces names 0 (statements held)) (body_view one.body) (lists_view one.references))
    (λ (one : GatheredChart). IsGatheredChart chart (body_view one.body) (lists_view one.references))
    (λ one is. a_basic held content (subst (λ (ns : List (List ℕ)). IsGatheredLevel ns (statements_pieces ns 0 (statements held)) (body_view one.body) (lists_view one.references)) c.requires.names is)) c.gathered_statements.ensures

pub returns-in-Graph : goal.returns-in-Graph
returns-in-Graph c = c.gathered_graph.ensures (chart_view c.args.chart.now) (graph_view c.in-Graph.field-0) (ap content_view c.in-Graph.is)
