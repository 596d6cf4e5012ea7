use Rattle.std.proofs.Common.{◌≡◌, ◌∙◌, ℕ, None, Some, List, [], ◌∷◌, Option, map, sym, ap, subst, rules}
use Rattle.gate_ends.specs.FoundEnds.{AreAll, GoesTo}
use Rattle.msc_base.specs.Places.{IsLeast}
use Rattle.msc_base.specs.declared.limits.TheConstants.Limits.{EXPANDED_NESTING}
use Rattle.msc_base.specs.declared.place.Place.{Place}
use Rattle.msc_instances.specs.Instances.{instances}
use Rattle.msc_meaning.specs.Views.{table_view}
use Rattle.msc_meaning.specs.WovenTables.{AreEntriesOf}
use Rattle.msc_meaning.specs.declared.body.ChartEntry.{ChartEntry}
use Rattle.msc_rules.specs.declared.first_fault.Broken.{Broken}
use Rattle.msc_rules.specs.declared.rule.Rule.{Rule}
use Rattle.msc_tree.specs.Charts.{Chart}
use Rattle.msc_acceptance.specs.ChartFaults.{IsCyclicAt}
use Rattle.msc_acceptance.specs.Deciding.{AreFaultsIn, IsFirstOf, TellsEarliest, cycles, gate_groups}
use Rattle.msc_acceptance.specs.RefinedTexts.{AreKnownRefinements}
use Rattle.msc_acceptance.specs.declared.refinements.KnownRefinements.{KnownRefinements}
use Rattle.msc_acceptance.specs.declared.tables.BodyFaults.{BodyFaults}
use Rattle.msc_acceptance.proofs.AcceptLaws.{cycle_first, cycle_kept, first_left}
use Rattle.msc_acceptance.proofs.CycleLaws.{cyclic_least, ordered_where_none}
use Rattle.msc_acceptance.proofs.cycles.settle.Goals as goal

abbrev TellsFault : List ChartEntry → KnownRefinements → BodyFaults → Option (Broken Rule) → Type 0
TellsFault entries known faults fault = (charts : List Chart) → AreEntriesOf instances charts (table_view entries) → AreKnownRefinements charts known → AreFaultsIn charts faults → IsFirstOf charts gate_groups fault

abbrev names_in : List ChartEntry → List (List ℕ)
names_in entries = map (λ (e : ChartEntry). e.name) entries

pub gate_tables-requires-clause-deep : goal.gate_tables-requires-clause-deep
gate_tables-requires-clause-deep c =
    let entries = c.args.entries.items in
    let names : c.in_ok-names.names ≡ names_in entries = c.in_ok-names.ensures ∙ ap names_in c.as_slice.ensures.value in
    let deep : AreAll (GoesTo (table_view c.as_slice-2.result.now) EXPANDED_NESTING) (names_in entries) =
    subst (λ (es : List ChartEntry). AreAll (GoesTo (table_view es) EXPANDED_NESTING) (names_in entries)) (sym c.as_slice-2.ensures.value) c.requires.deep in
    subst (λ (ns : List (List ℕ)). AreAll (GoesTo (table_view c.as_slice-2.result.now) EXPANDED_NESTING) ns) (sym names) deep

pub returns-in-Some : goal.returns-in-Some
returns-in-Some c = λ charts are known own stands.
    let some : c.in_ok-fault.field-0 ≡ Some c.in-Some.fault = search rules in
    let told = subst (λ (es : List ChartEntry). TellsFault es c.args.known c.args.faults c.in_ok-fault.field-0) c.as_slice-3.ensures.value c.in_ok-fault.ensures in
    first_left charts gate_groups (cycles ∷ []) c.in-Some.fault (subst (λ (o : Option (Broken Rule)). IsFirstOf charts gate_groups o) some (told charts are known own))

pub returns-in-Some-2 : goal.returns-in-Some-2
returns-in-Some-2 c = λ charts are known own stands.
    let none : c.in_ok-fault.field-0 ≡ None = search rules in
    let some : c.in_ok-place.field-0 ≡ Some c.in-Some-2.place = search rules in
    let table = table_view c.args.entries.items in
    let told = subst (λ (es : List ChartEntry). TellsFault es c.args.known c.args.faults c.in_ok-fault.field-0) c.as_slice-3.ensures.value c.in_ok-fault.ensures in
    let kept = subst (λ (o : Option (Broken Rule)). IsFirstOf charts gate_groups o) none (told charts are known own) in
    let cycle = subst (λ (es : List ChartEntry). TellsEarliest (table_view es) c.args.stands.now c.in_ok-place.field-0) c.as_slice-4.ensures.value c.in_ok-place.ensures in
    cycle_first charts c.in-Some-2.place kept (subst (λ (o : Option Place). IsLeast (IsCyclicAt charts) o) some (cyclic_least charts table are c.args.stands.now stands c.in_ok-place.field-0 cycle))

pub returns-in-None : goal.returns-in-None
returns-in-None c = λ charts are known own stands.
    let none : c.in_ok-fault.field-0 ≡ None = search rules in
    let no : c.in_ok-place.field-0 ≡ None = search rules in
    let table = table_view c.args.entries.items in
    let told = subst (λ (es : List ChartEntry). TellsFault es c.args.known c.args.faults c.in_ok-fault.field-0) c.as_slice-3.ensures.value c.in_ok-fault.ensures in
    let kept = subst (λ (o : Option (Broken Rule)). IsFirstOf charts gate_groups o) none (told charts are known own) in
    let cycle = subst (λ (es : List ChartEntry). TellsEarliest (table_view es) c.args.stands.now c.in_ok-place.field-0) c.as_slice-4.ensures.value c.in_ok-place.ensures in
    let least = cyclic_least charts table are c.args.stands.now stands c.in_ok-place.field-0 cycle in
    let ordered = ordered_where_none charts table are c.args.stands.now stands c.in_ok-place.field-0 cycle no in
    (ap table_view c.of_entries.ensures, ordered, cycle_kept charts kept (subst (λ (o : Option Place). IsLeast (IsCyclicAt charts) o) no least))
