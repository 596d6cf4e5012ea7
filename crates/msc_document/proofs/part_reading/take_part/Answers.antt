use Rattle.std.proofs.Common.{◌∙◌, ◌∷◌, [], ap, map, List}
use Rattle.std.proofs.lemmas.List.{map-append}
use Rattle.msc_tree.specs.Charts.{Chart, Document}
use Rattle.msc_tree.specs.Views.{chart_view, document_view}
use Rattle.msc_document.proofs.PartReading.{chart_goes, goes_both}
use Rattle.msc_document.proofs.part_reading.take_part.Goals as goal

pub loop-k-preserved : goal.loop-k-preserved
loop-k-preserved c =
    let old : Document = document_view c.loop-k.document in
    let items = ap (map chart_view) c.in_ok-push.ensures.items ∙ map-append chart_view c.loop-k.document.charts.items (c.in_ok-chart.chart ∷ []) in
    goes_both c.args.levels c.args.tokens.now c.loop-k.rest.now c.in_ok-chart.behind.now (document_view c.args.document.now) old _ c.loop-k.invariant
    (chart_goes c.args.levels c.loop-k.rest.now c.in_ok-chart.behind.now (chart_view c.in_ok-chart.chart) old _ c.in_ok-chart.ensures
    (ap (λ (cs : List Chart). let d : Document = record { heading = old.heading; charts = cs } in d) items))
