use Rattle.std.proofs.Common.{◌≡◌, ◌∙◌, ap, map, subst, sym, true}
use Rattle.chart_text.proofs.StandingLaws.{each_right}
use Rattle.chart_text.specs.Texts.{a_head, content_text}
use Rattle.chart_text.specs.WellFormed.{AreWellFormed, is_well_formed}
use Rattle.level_pieces.proofs.ColumnLaws.{instances_differ}
use Rattle.msc_tree.specs.Charts.{Basic, Content}
use Rattle.msc_tree.specs.Views.{chart_view, content_view, statement_view}
use Rattle.text_tests.proofs.charts.woven_to.Goals as goal

pub weave-requires-clause-different : goal.weave-requires-clause-different
weave-requires-clause-different c = instances_differ (chart_view c.args.chart.now) c.args.names.now c.requires.names

pub weave-requires-clause-formed : goal.weave-requires-clause-formed
weave-requires-clause-formed c =
    let chart = chart_view c.args.chart.now in
    let content : chart.content ≡ Basic (map statement_view c.as_slice.result.now) = ap content_view c.in-Events.is ∙ ap (λ l. Basic (map statement_view l)) (sym c.as_slice.ensures.value) in
    subst (λ (x : Content). AreWellFormed (content_text x)) content (each_right (λ p. is_well_formed p ≡ true) (map a_head chart.decls) (content_text chart.content) c.requires.formed)
