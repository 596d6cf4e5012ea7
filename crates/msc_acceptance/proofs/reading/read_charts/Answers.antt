use Rattle.std.proofs.Common.{rules, arith, refl}
use Rattle.chart_forms.specs.TiedTexts.{is_tied_text}
use Rattle.chart_text.specs.Texts.{chart_text}
use Rattle.msc_instances.specs.Instances.{instances}
use Rattle.msc_acceptance.specs.RefinedTexts.{is_refined_chart}
use Rattle.msc_acceptance.specs.SingleItems.{is_single_chart}
use Rattle.msc_tree.specs.Charts.{Chart}
use Rattle.msc_acceptance.proofs.ChartLists.{one_more}
use Rattle.msc_acceptance.proofs.TableLaws.{texts_all, texts_more, texts_start}
use Rattle.msc_acceptance.proofs.reading.read_charts.Goals as goal

pub loop-chart-init : goal.loop-chart-init
loop-chart-init c = record { lists = search rules; stands = search rules; singles = search rules; tied = search rules; refined = search rules; places = texts_start c.args.charts.now }

pub loop-chart-preserved : goal.loop-chart-preserved
loop-chart-preserved c =
    let at = c.loop-chart in
    let text = c.in_ok-text.text in
    let own = c.in_ok-text.ensures in
    let e = c.earlier_places-places.ensures in
    record {
      lists = one_more instances c.args.charts.now at.chart-index c.chart-item.result at.lists _ _ text.names c.loop-chart-test.true c.chart-item.is (search rules) own.names at.invariant.lists;
      stands = one_more (λ (x : Chart). x.place) c.args.charts.now at.chart-index c.chart-item.result at.stands _ _ c.chart-item.result.place c.loop-chart-test.true c.chart-item.is (search rules) refl at.invariant.stands;
      singles = one_more is_single_chart c.args.charts.now at.chart-index c.chart-item.result at.singles _ _ text.single c.loop-chart-test.true c.chart-item.is (search rules) own.single at.invariant.singles;
      tied = one_more (λ (x : Chart). is_tied_text (chart_text x)) c.args.charts.now at.chart-index c.chart-item.result at.tied _ _ text.tied c.loop-chart-test.true c.chart-item.is (search rules) own.tied at.invariant.tied;
      refined = one_more is_refined_chart c.args.charts.now at.chart-index c.chart-item.result at.refined _ _ text.refined c.loop-chart-test.true c.chart-item.is (search rules) own.refined at.invariant.refined;
      places = texts_more c.args.charts.now at.chart-index c.chart-item.result at.places text.places c.earlier_places-places.result c.loop-chart-test.true c.chart-item.is own.places
          (record { high_bound = e.high_bound; twice = e.twice; undeclared = e.undeclared; creation = e.creation; child = e.child; behind = e.behind; coregion = e.coregion }) at.invariant.places;
    }

pub returns-clause-places : goal.returns-clause-places
returns-clause-places c = texts_all c.args.charts.now c.loop-chart.chart-index c.loop-chart.places (λ lt. omega (arith, lt, c.loop-chart-test.false)) c.loop-chart.invariant.places
