use Rattle.std.proofs.Common.{subst, sym}
use Rattle.msc_base.proofs.Narrowing.{Narrows, narrows_start}
use Rattle.msc_base.specs.declared.place.Place.{Place}
use Rattle.msc_meaning.specs.Views.{entry_view}
use Rattle.msc_meaning.specs.declared.body.ChartEntry as code
use Rattle.refinement_rules.specs.Earliest.{EntryBreaksBy, told}
use Rattle.refinement_rules.specs.Walks.{OneHolds}
use Rattle.refinement_rules.proofs.Walked.{place_end, place_step}
use Rattle.refinement_rules.proofs.faults.charts_places.Goals as goal

pub loop-chart-init : goal.loop-chart-init
loop-chart-init c = λ r.
    let P : code.ChartEntry → Place → Type 0 = λ x. EntryBreaksBy c.args.known (entry_view x) r in
    let all = OneHolds P c.args.known.table.charts.now in
    subst (Narrows all all) (sym (c.none-places.ensures r)) (narrows_start all)

pub loop-chart-preserved : goal.loop-chart-preserved
loop-chart-preserved c = λ r.
    let P : code.ChartEntry → Place → Type 0 = λ x. EntryBreaksBy c.args.known (entry_view x) r in
    let xs = c.args.known.table.charts.now in
    place_step P (OneHolds P xs) xs c.loop-chart.chart-index c.chart-item.result (told r c.loop-chart.places) (told r c.in_ok-next.next) c.loop-chart-test.true c.chart-item.is (c.in_ok-next.ensures r) (c.loop-chart.invariant r)

pub returns : goal.returns
returns c = λ r.
    let P : code.ChartEntry → Place → Type 0 = λ x. EntryBreaksBy c.args.known (entry_view x) r in
    let xs = c.args.known.table.charts.now in
    place_end P (OneHolds P xs) xs c.loop-chart.chart-index (told r c.loop-chart.places) c.loop-chart-test.false (c.loop-chart.invariant r)
