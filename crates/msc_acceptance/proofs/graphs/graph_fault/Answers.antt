use Rattle.std.proofs.Common.{rules, arith, ◌≡◌, ◌∙◌, [], List, None, Some, Option, Result, Ok, Err, IfOk, length, map, sym, subst, ap}
use Rattle.std.proofs.lemmas.Bool.Decides.{nat_tests}
use Rattle.std.proofs.lemmas.List.{nil_from_length}
use Rattle.graph_rules.specs.GraphRules.{BreakLabels, HaveFewLines, labels}
use Rattle.graph_rules.specs.GraphViews.{graphs_view}
use Rattle.msc_base.specs.declared.memory.NoMemory.{NoMemory}
use Rattle.msc_rules.specs.FirstFaults.{IsBest}
use Rattle.msc_rules.specs.Rules.{number_of}
use Rattle.msc_rules.specs.declared.first_fault.Broken.{Broken}
use Rattle.msc_rules.specs.declared.rule.Rule.{Rule}
use Rattle.msc_tree.specs.Charts.{Chart}
use Rattle.msc_tree.specs.Graphs.{Graph}
use Rattle.msc_tree.specs.Views.{chart_view}
use Rattle.msc_acceptance.specs.Acceptance.{BreaksOf}
use Rattle.msc_acceptance.specs.Deciding.{IsFirstOf, endings, graph_groups}
use Rattle.msc_acceptance.specs.GraphFaults.{charts_graphs}
use Rattle.msc_acceptance.proofs.AcceptLaws.{ending_first, label_first}
use Rattle.msc_acceptance.proofs.GraphLaws.{few_kept, graphless_kept, labelled_of, labels_best}
use Rattle.msc_acceptance.proofs.graphs.graph_fault.Goals as goal

last_group : (charts : List Chart) (r : Result (Option (Broken Rule)) NoMemory) → IsBest number_of (BreaksOf charts) labels None → IfOk r (IsBest number_of (BreaksOf charts) endings) → IfOk r (IsFirstOf charts graph_groups)
last_group charts (Ok o) kept h = ending_first charts o kept h
last_group charts (Err e) kept h = tt

pub returns-then-is_empty : goal.returns-then-is_empty
returns-then-is_empty c =
    let charts = map chart_view c.args.charts.now in
    let zero : length c.in_ok-graphs.graphs.items ≡ 0 = grind (arith, nat_tests) in
    let empty : c.in_ok-graphs.graphs.items ≡ [] = nil_from_length c.in_ok-graphs.graphs.items zero in
    let none : charts_graphs charts ≡ [] = sym c.in_ok-graphs.ensures ∙ ap graphs_view empty in
    graphless_kept charts none

pub label_fault-requires : goal.label_fault-requires
label_fault-requires c =
    let charts = map chart_view c.args.charts.now in
    let graphs : graphs_view c.as_slice.result.now ≡ charts_graphs charts = ap graphs_view c.as_slice.ensures.value ∙ c.in_ok-graphs.ensures in
    subst HaveFewLines (sym graphs) (few_kept charts c.requires.kept)

pub returns-in-Some : goal.returns-in-Some
returns-in-Some c =
    let charts = map chart_view c.args.charts.now in
    let graphs : graphs_view c.as_slice.result.now ≡ charts_graphs charts = ap graphs_view c.as_slice.ensures.value ∙ c.in_ok-graphs.ensures in
    let told : IsBest number_of (BreakLabels (charts_graphs charts)) labels c.in_ok-fault.field-0 = subst (λ (gs : List Graph). IsBest number_of (BreakLabels gs) labels c.in_ok-fault.field-0) graphs c.in_ok-fault.ensures in
    let e : c.in_ok-fault.field-0 ≡ Some c.in-Some.fault = search rules in
    label_first charts c.in-Some.fault (labels_best charts (Some c.in-Some.fault) (subst (λ (o : Option (Broken Rule)). IsBest number_of (BreakLabels (charts_graphs charts)) labels o) e told))

pub end_fault-requires-clause-few : goal.end_fault-requires-clause-few
end_fault-requires-clause-few c = few_kept (map chart_view c.args.charts.now) c.requires.kept

pub end_fault-requires-clause-labelled : goal.end_fault-requires-clause-labelled
end_fault-requires-clause-labelled c =
    let charts = map chart_view c.args.charts.now in
    let graphs : graphs_view c.as_slice.result.now ≡ charts_graphs charts = ap graphs_view c.as_slice.ensures.value ∙ c.in_ok-graphs.ensures in
    let told : IsBest number_of (BreakLabels (charts_graphs charts)) labels c.in_ok-fault.field-0 = subst (λ (gs : List Graph). IsBest number_of (BreakLabels gs) labels c.in_ok-fault.field-0) graphs c.in_ok-fault.ensures in
    let e : c.in_ok-fault.field-0 ≡ None = search rules in
    labelled_of (charts_graphs charts) (subst (λ (o : Option (Broken Rule)). IsBest number_of (BreakLabels (charts_graphs charts)) labels o) e told)

pub returns : goal.returns
returns c =
    let charts = map chart_view c.args.charts.now in
    let graphs : graphs_view c.as_slice.result.now ≡ charts_graphs charts = ap graphs_view c.as_slice.ensures.value ∙ c.in_ok-graphs.ensures in
    let told : IsBest number_of (BreakLabels (charts_graphs charts)) labels c.in_ok-fault.field-0 = subst (λ (gs : List Graph). IsBest number_of (BreakLabels gs) labels c.in_ok-fault.field-0) graphs c.in_ok-fault.ensures in
    let e : c.in_ok-fault.field-0 ≡ None = search rules in
    last_group charts c.end_fault.result (labels_best charts None (subst (λ (o : Option (Broken Rule)). IsBest number_of (BreakLabels (charts_graphs charts)) labels o) e told)) c.end_fault.ensures
