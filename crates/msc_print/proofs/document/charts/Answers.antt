use Rattle.std.proofs.Common.{◌∙◌, sym, add-one}
use Rattle.msc_tree.specs.Views.{chart_view}
use Rattle.msc_print.specs.ChartWords.{chart_words}
use Rattle.msc_print.proofs.Putting.{mapped_step}
use Rattle.msc_print.proofs.document.charts.Goals as goal

pub loop-held-preserved : goal.loop-held-preserved
loop-held-preserved c =
    rw (c.in_ok-chart.ensures, add-one) (sym (mapped_step chart_view chart_words c.loop-held.page c.args.list.now c.loop-held.held-index c.held-item.result c.loop-held-test.true c.held-item.is) ∙ c.loop-held.invariant)
