use Rattle.std.proofs.Common.{◌≡◌, List, Option, map, subst, sym, ap, ap₂, ◌∙◌}
use Rattle.graph_rules.specs.GraphRules.{HasFurtherLine, InGraphs}
use Rattle.graph_rules.specs.GraphViews.{graphs_view}
use Rattle.msc_base.specs.Places.{IsLeast}
use Rattle.msc_rules.specs.declared.first_fault.Broken.{Broken}
use Rattle.msc_rules.specs.FirstFaults.{IsBest, earlier_of, fault_of}
use Rattle.msc_rules.specs.declared.rule.Rule.{Rule}
use Rattle.msc_rules.specs.declared.rule.Rule.TheVariants.{Charts, Instances, LoopBound, Nodes}
use Rattle.msc_rules.specs.Rules.{number_of}
use Rattle.msc_acceptance.specs.Acceptance.{BreaksOf}
use Rattle.msc_acceptance.specs.Deciding.{limits}
use Rattle.msc_tree.specs.Graphs.{Graph}
use Rattle.msc_tree.specs.Views.{chart_view}
use Rattle.msc_acceptance.proofs.GroupLaws.{four_best}
use Rattle.msc_acceptance.proofs.deciding.limit_fault.Goals as goal

abbrev first_of : Option (Broken Rule) → Option (Broken Rule) → Option (Broken Rule)
first_of x y = earlier_of number_of x y

pub returns : goal.returns
returns c =
    let charts = map chart_view c.args.charts.now in
    let high = c.args.reading.now.places.high_bound in
    let two : c.earlier_fault.result ≡ first_of (fault_of Charts c.further_chart.result) (fault_of Instances c.in_ok-place.place) = c.earlier_fault.ensures ∙ ap₂ first_of c.broken_at-further.ensures c.broken_at-instances.ensures in
    let three : c.earlier_fault-2.result ≡ first_of (first_of (fault_of Charts c.further_chart.result) (fault_of Instances c.in_ok-place.place)) (fault_of Nodes c.further_line.result) =
    c.earlier_fault-2.ensures ∙ ap₂ first_of two c.broken_at-nodes.ensures in
    let all : c.earlier_fault-3.result ≡ first_of (first_of (first_of (fault_of Charts c.further_chart.result) (fault_of Instances c.in_ok-place.place)) (fault_of Nodes c.further_line.result)) (fault_of LoopBound high) =
    c.earlier_fault-3.ensures ∙ ap₂ first_of three c.broken_at-high.ensures in
    let nodes : IsLeast (BreaksOf charts Nodes) c.further_line.result =
    subst (λ (gs : List Graph). IsLeast (InGraphs HasFurtherLine gs) c.further_line.result) (ap graphs_view c.as_slice-2.ensures.value ∙ c.in_ok-graphs.ensures) c.further_line.ensures in
    subst (λ (x : Option (Broken Rule)). IsBest number_of (BreaksOf charts) limits x) (sym all)
    (four_best charts Charts Instances Nodes LoopBound c.further_chart.result c.in_ok-place.place c.further_line.result high c.further_chart.ensures c.in_ok-place.ensures nodes c.requires.places.high_bound)
