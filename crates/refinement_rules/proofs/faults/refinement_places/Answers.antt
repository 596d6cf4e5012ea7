use Rattle.msc_base.specs.Places.{IsLeast}
use Rattle.msc_instances.proofs.Meeting.{retold}
use Rattle.msc_meaning.specs.Views.{table_view}
use Rattle.refinement_rules.specs.Earliest.{told}
use Rattle.refinement_rules.specs.Judging.{TableBreaks}
use Rattle.refinement_rules.specs.RefinementRules.{BreaksRefinementRule}
use Rattle.refinement_rules.specs.declared.faults.RefinementPlaces.{RefinementPlaces}
use Rattle.refinement_rules.specs.declared.faults.RefinementRule.{RefinementRule}
use Rattle.refinement_rules.specs.declared.faults.RefinementRule.TheVariants.{DecompositionMismatch, Inside, LocalEvent, SharedPart}
use Rattle.refinement_rules.proofs.TableFacts.{rule_least}
use Rattle.refinement_rules.proofs.faults.refinement_places.Goals as goal

pub returns-clause-mismatch : goal.returns-clause-mismatch
returns-clause-mismatch c = λ links same t.
    let charts = c.args.charts.now in
    let k = c.args.tables.now in
    retold c.places_by.result (λ (places : RefinementPlaces). (r : RefinementRule) → IsLeast (TableBreaks (table_view charts) k.names k.known k.reach.items k.expanded.items r) (told r places))
    (λ (places : RefinementPlaces). IsLeast (BreaksRefinementRule links (table_view charts) DecompositionMismatch) places.mismatch)
    (λ places h. rule_least links charts c.args.names.now k.names k.known k.reach.items k.expanded.items DecompositionMismatch places.mismatch c.requires same t (h DecompositionMismatch)) c.places_by.ensures

pub returns-clause-shared : goal.returns-clause-shared
returns-clause-shared c = λ links same t.
    let charts = c.args.charts.now in
    let k = c.args.tables.now in
    retold c.places_by.result (λ (places : RefinementPlaces). (r : RefinementRule) → IsLeast (TableBreaks (table_view charts) k.names k.known k.reach.items k.expanded.items r) (told r places))
    (λ (places : RefinementPlaces). IsLeast (BreaksRefinementRule links (table_view charts) SharedPart) places.shared)
    (λ places h. rule_least links charts c.args.names.now k.names k.known k.reach.items k.expanded.items SharedPart places.shared c.requires same t (h SharedPart)) c.places_by.ensures

pub returns-clause-inside : goal.returns-clause-inside
returns-clause-inside c = λ links same t.
    let charts = c.args.charts.now in
    let k = c.args.tables.now in
    retold c.places_by.result (λ (places : RefinementPlaces). (r : RefinementRule) → IsLeast (TableBreaks (table_view charts) k.names k.known k.reach.items k.expanded.items r) (told r places))
    (λ (places : RefinementPlaces). IsLeast (BreaksRefinementRule links (table_view charts) Inside) places.inside)
    (λ places h. rule_least links charts c.args.names.now k.names k.known k.reach.items k.expanded.items Inside places.inside c.requires same t (h Inside)) c.places_by.ensures

pub returns-clause-local : goal.returns-clause-local
returns-clause-local c = λ links same t.
    let charts = c.args.charts.now in
    let k = c.args.tables.now in
    retold c.places_by.result (λ (places : RefinementPlaces). (r : RefinementRule) → IsLeast (TableBreaks (table_view charts) k.names k.known k.reach.items k.expanded.items r) (told r places))
    (λ (places : RefinementPlaces). IsLeast (BreaksRefinementRule links (table_view charts) LocalEvent) places.local)
    (λ places h. rule_least links charts c.args.names.now k.names k.known k.reach.items k.expanded.items LocalEvent places.local c.requires same t (h LocalEvent)) c.places_by.ensures
