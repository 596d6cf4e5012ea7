use Rattle.std.specs.List.{list_any}
use Rattle.std.specs.Str.{bytes_eq}
use Rattle.std.proofs.Common.{◌≡◌, ◌∙◌, ℕ, Bool, List, Option, map, sym, subst, ap}
use Rattle.chart_links.specs.SummaryViews.{summary_view}
use Rattle.graph_rules.specs.GraphRules.{AreLabelled, HaveFewLines}
use Rattle.graph_rules.specs.GraphViews.{graphs_view}
use Rattle.msc_rules.specs.FirstFaults.{IsBest}
use Rattle.msc_rules.specs.Rules.{number_of}
use Rattle.msc_rules.specs.declared.first_fault.Broken.{Broken}
use Rattle.msc_rules.specs.declared.rule.Rule.{Rule}
use Rattle.msc_tree.specs.Graphs.{Graph}
use Rattle.msc_tree.specs.Views.{chart_view}
use Rattle.msc_acceptance.specs.Acceptance.{BreaksOf}
use Rattle.msc_acceptance.specs.Deciding.{endings}
use Rattle.msc_acceptance.specs.GraphFaults.{graphs_ending}
use Rattle.msc_acceptance.proofs.GraphLaws.{ending_few, ending_labelled, endings_best, referred_of}
use Rattle.msc_acceptance.proofs.graphs.end_fault.Goals as goal

abbrev named_in : List (List ℕ) → List ℕ → Bool
named_in table name = list_any (bytes_eq name) table

pub endless_line-requires-clause-few : goal.endless_line-requires-clause-few
endless_line-requires-clause-few c =
    let charts = map chart_view c.args.charts.now in
    let graphs : graphs_view c.as_slice-2.result.now ≡ graphs_ending (named_in c.in_ok-referred.referred) charts = ap graphs_view c.as_slice-2.ensures.value ∙ c.in_ok-graphs.ensures in
    subst HaveFewLines (sym graphs) (ending_few (named_in c.in_ok-referred.referred) charts c.requires.few)

pub endless_line-requires-clause-labelled : goal.endless_line-requires-clause-labelled
endless_line-requires-clause-labelled c =
    let charts = map chart_view c.args.charts.now in
    let graphs : graphs_view c.as_slice-2.result.now ≡ graphs_ending (named_in c.in_ok-referred.referred) charts = ap graphs_view c.as_slice-2.ensures.value ∙ c.in_ok-graphs.ensures in
    subst AreLabelled (sym graphs) (ending_labelled (named_in c.in_ok-referred.referred) charts c.requires.labelled)

pub returns : goal.returns
returns c =
    let charts = map chart_view c.args.charts.now in
    let referred = named_in c.in_ok-referred.referred in
    let graphs : graphs_view c.as_slice-2.result.now ≡ graphs_ending referred charts = ap graphs_view c.as_slice-2.ensures.value ∙ c.in_ok-graphs.ensures in
    let same = referred_of charts (map summary_view c.as_slice.result.now) c.in_ok-referred.referred (ap (map summary_view) c.as_slice.ensures.value ∙ c.in_ok-summaries.ensures) c.in_ok-referred.ensures in
    subst (λ (o : Option (Broken Rule)). IsBest number_of (BreaksOf charts) endings o) (sym c.broken_at.ensures) (endings_best charts referred (graphs_view c.as_slice-2.result.now) c.in_ok-place.place same graphs c.in_ok-place.ensures)
