use Rattle.std.proofs.Common.{rules, ℕ, ◌+◌, ap, arith, refl}
use Rattle.msc_instances.specs.Instances.{instances}
use Rattle.msc_acceptance.specs.SingleItems.{is_single_chart}
use Rattle.msc_acceptance.proofs.ChartLists.{own_of}
use Rattle.msc_acceptance.proofs.TableLaws.{parts_all, parts_more, parts_start}
use Rattle.msc_acceptance.proofs.parts.part_places.Goals as goal

pub loop-chart-init : goal.loop-chart-init
loop-chart-init c = record { number = search rules; parts = parts_start c.args.charts.now c.no_places-places.result (record { unshared = c.no_places-places.ensures.unshared; differing = c.no_places-places.ensures.differing; misplaced = c.no_places-places.ensures.misplaced }) }

pub loop-chart-preserved : goal.loop-chart-preserved
loop-chart-preserved c = record {
  number = ap (λ (n : ℕ). n + 1) c.loop-chart.invariant.number;
  parts = parts_more c.args.charts.now c.loop-chart.chart-index c.chart-item.result c.loop-chart.places c.in_ok-own.own c.earlier_places-places.result c.loop-chart-test.true c.chart-item.is c.in_ok-own.ensures
      (record { unshared = c.earlier_places-places.ensures.unshared; differing = c.earlier_places-places.ensures.differing; misplaced = c.earlier_places-places.ensures.misplaced }) c.loop-chart.invariant.parts;
}

pub own_places-requires-clause-names : goal.own_places-requires-clause-names
own_places-requires-clause-names c = own_of instances c.args.charts.now c.args.lists.now c.loop-chart.chart-index c.loop-chart.number c.chart-item.result c.index-lists-number.result c.index-lists-number.result c.requires.lists c.loop-chart.invariant.number c.loop-chart-test.true c.chart-item.is c.index-lists-number.is

pub own_places-requires-clause-single : goal.own_places-requires-clause-single
own_places-requires-clause-single c = own_of is_single_chart c.args.charts.now c.args.singles.now c.loop-chart.chart-index c.loop-chart.number c.chart-item.result _ _ c.requires.singles c.loop-chart.invariant.number c.loop-chart-test.true c.chart-item.is refl

pub returns : goal.returns
returns c = parts_all c.args.charts.now c.loop-chart.chart-index c.loop-chart.places (λ lt. omega (arith, lt, c.loop-chart-test.false)) c.loop-chart.invariant.parts
