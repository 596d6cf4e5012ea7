use Rattle.std.proofs.Common.{◌≡◌, ◌∙◌, false, sym}
use Rattle.msc_base.specs.Places.{IsLeast}
use Rattle.msc_instances.proofs.Meeting.{retold}
use Rattle.msc_meaning.specs.Views.{entry_view, table_view}
use Rattle.msc_meaning.specs.declared.body.ChartEntry as code
use Rattle.refinement_rules.specs.Earliest.{told}
use Rattle.refinement_rules.specs.Judging.{EntryBreaks, TableBreaks, some_chart_refined}
use Rattle.refinement_rules.specs.Walks.{OneHolds}
use Rattle.refinement_rules.specs.declared.faults.RefinementPlaces.{RefinementPlaces}
use Rattle.refinement_rules.specs.declared.faults.RefinementRule.{RefinementRule}
use Rattle.refinement_rules.proofs.BodyFacts.{table_none}
use Rattle.refinement_rules.proofs.TableFacts.{table_least}
use Rattle.refinement_rules.proofs.faults.places_by.Goals as goal

pub charts_places-requires : goal.charts_places-requires
charts_places-requires c = record { names = c.requires; inside = c.in_ok-inside.ensures }

pub returns-then-not-some_chart_refined : goal.returns-then-not-some_chart_refined
returns-then-not-some_chart_refined c = λ r.
    let k = c.args.tables.now in
    let charts = c.args.table.charts.now in
    let none : some_chart_refined (table_view charts) ≡ false = sym c.some_chart_refined.ensures ∙ c.if-not-some_chart_refined.true in
    table_none (table_view charts) k.names k.known k.reach.items k.expanded.items r (told r c.none.result) none (c.none.ensures r)

pub returns : goal.returns
returns c =
    let k = c.args.tables.now in
    let charts = c.args.table.charts.now in
    retold c.charts_places.result
    (λ (places : RefinementPlaces). (r : RefinementRule) → IsLeast (OneHolds (λ (x : code.ChartEntry). EntryBreaks (table_view charts) k.names k.known k.reach.items k.expanded.items r (entry_view x)) charts) (told r places))
    (λ (places : RefinementPlaces). (r : RefinementRule) → IsLeast (TableBreaks (table_view charts) k.names k.known k.reach.items k.expanded.items r) (told r places))
    (λ places h. λ r. table_least charts k.names k.known k.reach.items k.expanded.items r (told r places) (h r)) c.charts_places.ensures
