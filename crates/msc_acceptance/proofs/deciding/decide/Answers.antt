use Rattle.std.proofs.Common.{rules, ◌≡◌, ◌++◌, ℕ, List, [], ◌∷◌, None, Some, Option, Result, Ok, Err, IfOk, map, refl, sym, ap, subst}
use Rattle.std.specs.Borrow.{Bor}
use Rattle.std.specs.Option.{option_copied}
use Rattle.chart_cycles.specs.Cycles.{AreOrdered}
use Rattle.chart_links.specs.declared.tables.LinkTables.{LinkTables}
use Rattle.msc_base.specs.declared.limits.TheConstants.Limits.{EXPANDED_NESTING}
use Rattle.msc_base.specs.declared.memory.NoMemory.{NoMemory}
use Rattle.msc_base.specs.Lists.{AreDifferent}
use Rattle.msc_instances.specs.Instances.{instances}
use Rattle.msc_meaning.specs.Tables.{ChartEntry, Table}
use Rattle.msc_meaning.specs.Views.{table_view}
use Rattle.msc_meaning.specs.declared.body.ChartEntry as code
use Rattle.msc_meaning.specs.WovenTables.{AreEntriesOf}
use Rattle.msc_rules.specs.declared.first_fault.Broken.{Broken}
use Rattle.msc_rules.specs.declared.rule.Rule.{Rule}
use Rattle.msc_tree.specs.Charts.{Chart}
use Rattle.msc_tree.specs.Views.{chart_view}
use Rattle.msc_tree.specs.declared.chart.RawChart.{RawChart}
use Rattle.msc_acceptance.specs.Acceptance.{BreaksOf}
use Rattle.msc_acceptance.specs.Deciding.{AllKept, AreTextPlaces, HaveExtents, IsDecided, IsFirstOf, IsSettled, body_groups, graph_groups, table_groups, text_groups}
use Rattle.msc_acceptance.specs.RefinedTexts.{AreKnownLinks, AreKnownRefinements, AreLinksOf}
use Rattle.msc_acceptance.specs.SizedCharts.{OfSizes}
use Rattle.msc_acceptance.specs.declared.deciding.Decision.{Decision}
use Rattle.msc_acceptance.specs.declared.deciding.Decision.TheVariants as decision
use Rattle.msc_acceptance.proofs.AcceptLaws.{few, first_left, first_right, kept_both}
use Rattle.msc_acceptance.proofs.AcceptedLaws.{all_there, differ, entry_names}
use Rattle.msc_acceptance.proofs.HeldGates.{all_go}
use Rattle.msc_acceptance.proofs.RefinementPlaces.{known_lent, view_names}
use Rattle.msc_acceptance.proofs.deciding.decide.Goals as goal

-- the rules on what charts are woven to, and on their graphs
abbrev others : List (List Rule)
others = body_groups ++ (table_groups ++ graph_groups)

settled : (charts : List Chart) (table : Table) (d : Decision) → AllKept (BreaksOf charts) text_groups → AllKept (BreaksOf charts) body_groups → AreEntriesOf instances charts table → OfSizes charts HaveExtents
    → IsSettled (table_groups ++ graph_groups) charts table d → IsDecided charts d
settled charts table (decision.Accepted a) texts bodies are extents h = (
  kept_both charts text_groups others texts (kept_both charts body_groups (table_groups ++ graph_groups) bodies h.2),
  subst (AreEntriesOf instances charts) (sym h.0) are,
  subst (λ (t : Table). AreOrdered t EXPANDED_NESTING t) (sym h.0) h.1,
  extents,
)
settled charts table (decision.Faulty f) texts bodies are extents h = first_right charts text_groups others f texts (first_right charts body_groups (table_groups ++ graph_groups) f bodies h)

lent_links : (charts : List Chart) (o : Option (Bor LinkTables)) (held : Option LinkTables) → option_copied o ≡ held → AreLinksOf charts held → AreKnownLinks charts o
lent_links charts o held e h = known_lent charts o (subst (AreLinksOf charts) (sym e) h)

pub returns-in-Some : goal.returns-in-Some
returns-in-Some c =
    let charts = map chart_view c.args.charts.items in
    let told : IsFirstOf charts text_groups c.in_ok-fault.field-0 = subst (λ (l : List RawChart). IsFirstOf (map chart_view l) text_groups c.in_ok-fault.field-0) c.as_slice-2.ensures.value c.in_ok-fault.ensures.first in
    let e : c.in_ok-fault.field-0 ≡ Some c.in-Some.fault = search rules in
    first_left charts text_groups others c.in-Some.fault (subst (λ (o : Option (Broken Rule)). IsFirstOf charts text_groups o) e told)

pub returns-in-Some-body_fault : goal.returns-in-Some-body_fault
returns-in-Some-body_fault c =
    let charts = map chart_view c.args.charts.items in
    let told : IsFirstOf charts text_groups c.in_ok-fault.field-0 = subst (λ (l : List RawChart). IsFirstOf (map chart_view l) text_groups c.in_ok-fault.field-0) c.as_slice-2.ensures.value c.in_ok-fault.ensures.first in
    let e : c.in_ok-fault.field-0 ≡ None = search rules in
    let f : c.body_fault.result ≡ Some c.in-Some-body_fault.fault = search rules in
    first_right charts text_groups others c.in-Some-body_fault.fault (subst (λ (o : Option (Broken Rule)). IsFirstOf charts text_groups o) e told)
    (first_left charts body_groups (table_groups ++ graph_groups) c.in-Some-body_fault.fault (subst (λ (o : Option (Broken Rule)). IsFirstOf charts body_groups o) f (c.body_fault.ensures.first charts c.in_ok-made.ensures.faults)))

pub settle-requires-clause-few : goal.settle-requires-clause-few
settle-requires-clause-few c =
    let charts = map chart_view c.args.charts.items in
    let told : IsFirstOf charts text_groups c.in_ok-fault.field-0 = subst (λ (l : List RawChart). IsFirstOf (map chart_view l) text_groups c.in_ok-fault.field-0) c.as_slice-2.ensures.value c.in_ok-fault.ensures.first in
    let e : c.in_ok-fault.field-0 ≡ None = search rules in
    let f : c.body_fault.result ≡ None = search rules in
    few charts c.in_ok-made.made.entries.items (subst (λ (o : Option (Broken Rule)). IsFirstOf charts text_groups o) e told) (c.in_ok-made.ensures.entries (c.body_fault.ensures.whole f))

pub settle-requires-clause-different : goal.settle-requires-clause-different
settle-requires-clause-different c =
    let charts = map chart_view c.args.charts.items in
    let told : IsFirstOf charts text_groups c.in_ok-fault.field-0 = subst (λ (l : List RawChart). IsFirstOf (map chart_view l) text_groups c.in_ok-fault.field-0) c.as_slice-2.ensures.value c.in_ok-fault.ensures.first in
    let e : c.in_ok-fault.field-0 ≡ None = search rules in
    let f : c.body_fault.result ≡ None = search rules in
    let texts = subst (λ (o : Option (Broken Rule)). IsFirstOf charts text_groups o) e told in
    let are = c.in_ok-made.ensures.entries (c.body_fault.ensures.whole f) in
    subst AreDifferent (view_names c.in_ok-made.made.entries.items) (subst AreDifferent (sym (entry_names charts (table_view c.in_ok-made.made.entries.items) are)) (differ c.built_charts_are_known.ensures c.woven_charts_are_known.ensures charts c.requires texts))

pub settle-requires-clause-deep : goal.settle-requires-clause-deep
settle-requires-clause-deep c =
    let charts = map chart_view c.args.charts.items in
    let told : IsFirstOf charts text_groups c.in_ok-fault.field-0 = subst (λ (l : List RawChart). IsFirstOf (map chart_view l) text_groups c.in_ok-fault.field-0) c.as_slice-2.ensures.value c.in_ok-fault.ensures.first in
    let e : c.in_ok-fault.field-0 ≡ None = search rules in
    let f : c.body_fault.result ≡ None = search rules in
    let texts = subst (λ (o : Option (Broken Rule)). IsFirstOf charts text_groups o) e told in
    let table = table_view c.in_ok-made.made.entries.items in
    let are = c.in_ok-made.ensures.entries (c.body_fault.ensures.whole f) in
    let extents : OfSizes charts HaveExtents = subst (λ (l : List RawChart). OfSizes (map chart_view l) HaveExtents) c.as_slice-2.ensures.value (c.in_ok-fault.ensures.extents e) in
    all_go table c.in_ok-made.made.entries.items (all_there c.built_charts_are_known.ensures c.woven_charts_are_known.ensures charts c.requires texts table are extents)

pub settle-requires-clause-whole : goal.settle-requires-clause-whole
settle-requires-clause-whole c =
    let f : c.body_fault.result ≡ None = search rules in
    c.body_fault.ensures.whole f

pub returns : goal.returns
returns c =
    let charts = map chart_view c.args.charts.items in
    let told : IsFirstOf charts text_groups c.in_ok-fault.field-0 = subst (λ (l : List RawChart). IsFirstOf (map chart_view l) text_groups c.in_ok-fault.field-0) c.as_slice-2.ensures.value c.in_ok-fault.ensures.first in
    let e : c.in_ok-fault.field-0 ≡ None = search rules in
    let f : c.body_fault.result ≡ None = search rules in
    let texts = subst (λ (o : Option (Broken Rule)). IsFirstOf charts text_groups o) e told in
    let bodies = subst (λ (o : Option (Broken Rule)). IsFirstOf charts body_groups o) f (c.body_fault.ensures.first charts c.in_ok-made.ensures.faults) in
    let are = c.in_ok-made.ensures.entries (c.body_fault.ensures.whole f) in
    let extents : OfSizes charts HaveExtents = subst (λ (l : List RawChart). OfSizes (map chart_view l) HaveExtents) c.as_slice-2.ensures.value (c.in_ok-fault.ensures.extents e) in
    let places : AreTextPlaces charts c.in_ok-reading.reading.places = subst (λ (l : List RawChart). AreTextPlaces (map chart_view l) c.in_ok-reading.reading.places) c.as_slice.ensures.value c.in_ok-reading.ensures.places in
    let links = subst (λ (l : List RawChart). AreLinksOf (map chart_view l) c.in_ok-links.links) c.as_slice-3.ensures.value c.in_ok-links.ensures in
    let known : AreKnownRefinements charts (record { links = c.as_ref.result; coregion = c.in_ok-reading.reading.places.coregion }) =
    record { links = lent_links charts c.as_ref.result c.in_ok-links.links c.as_ref.ensures.value links; coregion = places.coregion } in
    let table = table_view c.in_ok-made.made.entries.items in
    let drawn = subst (λ (l : List RawChart). IsFirstOf (map chart_view l) graph_groups c.in_ok-drawn.drawn) c.as_slice-6.ensures.value c.in_ok-drawn.ensures in
    let told : IsSettled table_groups charts table c.in_ok-settled.settled =
    subst (λ (r : Result Decision NoMemory). IfOk r (IsSettled table_groups charts table)) c.in_ok-settled.was (c.settle.ensures charts are known c.in_ok-made.ensures.faults (search rules)) in
    settled charts table c.with_graphs.result texts bodies are extents (c.with_graphs.ensures charts table told drawn)
