use Rattle.std.proofs.Common.{rules, ◌≡◌, List, None, Some, Option, Result, Ok, Err, IfOk, map, subst, ◌∙◌}
use Rattle.msc_base.specs.declared.memory.NoMemory.{NoMemory}
use Rattle.msc_rules.specs.FirstFaults.{IsBest}
use Rattle.msc_rules.specs.Rules.{number_of}
use Rattle.msc_rules.specs.declared.first_fault.Broken.{Broken}
use Rattle.msc_rules.specs.declared.rule.Rule.{Rule}
use Rattle.msc_tree.specs.Charts.{Chart}
use Rattle.msc_tree.specs.Views.{chart_view}
use Rattle.msc_acceptance.specs.Acceptance.{BreaksOf}
use Rattle.msc_acceptance.specs.Deciding.{HaveExtents, IsFirstOf, limits, link_groups, names, parts, text_groups}
use Rattle.msc_acceptance.specs.SizedCharts.{OfSizes}
use Rattle.msc_acceptance.proofs.AcceptLaws.{first_link, first_of_text, none_of}
use Rattle.msc_acceptance.proofs.AcceptedLaws.{kept_apart}
use Rattle.msc_acceptance.proofs.deciding.text_fault.Goals as goal

last_group : (charts : List Chart) (r : Result (Option (Broken Rule)) NoMemory) → IsBest number_of (BreaksOf charts) limits None → IsBest number_of (BreaksOf charts) names None
    → IsFirstOf charts link_groups None → IfOk r (IsBest number_of (BreaksOf charts) parts) → IfOk r (IsFirstOf charts text_groups)
last_group charts (Ok o) a b c h = first_of_text charts o a b c h
last_group charts (Err e) a b c h = tt

given : (P : Type 0) (r : Result (Option (Broken Rule)) NoMemory) → P → IfOk r (λ x. x ≡ None → P)
given P (Ok x) p = λ none. p
given P (Err e) p = tt

pub link_fault-requires : goal.link_fault-requires
link_fault-requires c =
    let charts = map chart_view c.args.charts.now in
    let e3 : c.in_ok-fault-2.field-0 ≡ None = search rules in
    record {
      read = record {
        lists = c.as_slice.ensures ∙ c.requires.reading.lists;
        tied = c.as_slice-2.ensures ∙ c.requires.reading.tied;
        formed = c.requires.formed;
        different = kept_apart charts (none_of charts names c.in_ok-fault-2.field-0 e3 c.in_ok-fault-2.ensures);
      };
    }

pub returns-in-Some-3-clause-first : goal.returns-in-Some-3-clause-first
returns-in-Some-3-clause-first c =
    let charts = map chart_view c.args.charts.now in
    let e2 : c.in_ok-fault.field-0 ≡ None = search rules in
    let e3 : c.in_ok-fault-2.field-0 ≡ None = search rules in
    let e4 : c.in_ok-fault-3.field-0 ≡ Some c.in-Some-3.fault = search rules in
    first_link charts c.in-Some-3.fault (none_of charts limits c.in_ok-fault.field-0 e2 c.in_ok-fault.ensures)
    (none_of charts names c.in_ok-fault-2.field-0 e3 c.in_ok-fault-2.ensures) (subst (λ (o : Option (Broken Rule)). IsFirstOf charts link_groups o) e4 c.in_ok-fault-3.ensures.first)

pub returns-clause-first : goal.returns-clause-first
returns-clause-first c =
    let charts = map chart_view c.args.charts.now in
    let e2 : c.in_ok-fault.field-0 ≡ None = search rules in
    let e3 : c.in_ok-fault-2.field-0 ≡ None = search rules in
    let e4 : c.in_ok-fault-3.field-0 ≡ None = search rules in
    last_group charts c.part_fault.result (none_of charts limits c.in_ok-fault.field-0 e2 c.in_ok-fault.ensures)
    (none_of charts names c.in_ok-fault-2.field-0 e3 c.in_ok-fault-2.ensures) (subst (λ (o : Option (Broken Rule)). IsFirstOf charts link_groups o) e4 c.in_ok-fault-3.ensures.first) c.part_fault.ensures

pub returns-clause-extents : goal.returns-clause-extents
returns-clause-extents c =
    let e4 : c.in_ok-fault-3.field-0 ≡ None = search rules in
    given (OfSizes (map chart_view c.args.charts.now) HaveExtents) c.part_fault.result (c.in_ok-fault-3.ensures.extents e4)
