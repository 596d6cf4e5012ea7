use Rattle.std.proofs.Common.{rules, ◌≡◌, None, Some, Option, List, inl, inr, map, refl, subst}
use Rattle.chart_links.specs.References.{LeavesUncovered, MissesChart, Recurs}
use Rattle.chart_links.specs.Summaries.{Summary}
use Rattle.msc_base.specs.Places.{IsLeast}
use Rattle.msc_rules.specs.FirstFaults.{IsBest}
use Rattle.msc_rules.specs.Rules.{number_of}
use Rattle.msc_rules.specs.declared.first_fault.Broken.{Broken}
use Rattle.msc_rules.specs.declared.rule.Rule.{Rule}
use Rattle.msc_rules.specs.declared.rule.Rule.TheVariants.{Recursive}
use Rattle.msc_tree.specs.Views.{chart_view}
use Rattle.msc_acceptance.specs.Acceptance.{BreaksOf}
use Rattle.msc_acceptance.specs.SizedCharts.{OfSizes}
use Rattle.msc_acceptance.specs.Deciding.{HaveExtents, references}
use Rattle.msc_acceptance.proofs.AcceptLaws.{none_of}
use Rattle.msc_acceptance.proofs.LinkLaws.{always, both_groups}
use Rattle.msc_acceptance.proofs.links.linked_fault.Goals as goal

pub returns-in-Some-clause-first : goal.returns-in-Some-clause-first
returns-in-Some-clause-first c =
    let charts = map chart_view c.args.read.charts.now in
    let p = c.in_ok-places.places in
    let found = c.in_ok-places.ensures in
    let best : IsBest number_of (BreaksOf charts) references c.reference_fault.result =
    c.reference_fault.ensures charts (subst (λ (s : List Summary). IsLeast (MissesChart s) p.missing) c.requires.summaries found.missing) (subst (λ (s : List Summary). IsLeast (Recurs s) p.recursive) c.requires.summaries found.recursive)
    (subst (λ (s : List Summary). IsLeast (LeavesUncovered s) p.uncovered) c.requires.summaries found.uncovered) in
    let e : c.reference_fault.result ≡ Some c.in-Some.fault = search rules in
    inl (subst (λ (o : Option (Broken Rule)). IsBest number_of (BreaksOf charts) references o) e best)

pub chart_ranks-requires-clause-acyclic : goal.chart_ranks-requires-clause-acyclic
chart_ranks-requires-clause-acyclic c =
    let charts = map chart_view c.args.read.charts.now in
    let p = c.in_ok-places.places in
    let found = c.in_ok-places.ensures in
    let best : IsBest number_of (BreaksOf charts) references c.reference_fault.result =
    c.reference_fault.ensures charts (subst (λ (s : List Summary). IsLeast (MissesChart s) p.missing) c.requires.summaries found.missing) (subst (λ (s : List Summary). IsLeast (Recurs s) p.recursive) c.requires.summaries found.recursive)
    (subst (λ (s : List Summary). IsLeast (LeavesUncovered s) p.uncovered) c.requires.summaries found.uncovered) in
    let e : c.reference_fault.result ≡ None = search rules in
    let kept = none_of charts references c.reference_fault.result e best in
    λ q h. kept Recursive q (inr (inl refl)) (subst (λ (s : List Summary). Recurs s q) c.requires.summaries h)

pub returns-clause-first : goal.returns-clause-first
returns-clause-first c =
    let charts = map chart_view c.args.read.charts.now in
    let p = c.in_ok-places.places in
    let found = c.in_ok-places.ensures in
    let best : IsBest number_of (BreaksOf charts) references c.reference_fault.result =
    c.reference_fault.ensures charts (subst (λ (s : List Summary). IsLeast (MissesChart s) p.missing) c.requires.summaries found.missing) (subst (λ (s : List Summary). IsLeast (Recurs s) p.recursive) c.requires.summaries found.recursive)
    (subst (λ (s : List Summary). IsLeast (LeavesUncovered s) p.uncovered) c.requires.summaries found.uncovered) in
    let e : c.reference_fault.result ≡ None = search rules in
    both_groups charts c.ranked_fault.result (none_of charts references c.reference_fault.result e best) c.ranked_fault.ensures.best

pub returns-clause-extents : goal.returns-clause-extents
returns-clause-extents c = always (OfSizes (map chart_view c.args.read.charts.now) HaveExtents) c.ranked_fault.result (λ fault. fault ≡ None) c.ranked_fault.ensures.extents
