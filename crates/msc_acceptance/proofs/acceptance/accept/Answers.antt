use Rattle.std.proofs.Common.{rules, ◌≡◌, ◌++◌, map, subst, ◌∙◌}
use Rattle.msc_tree.specs.Views.{chart_view, document_view}
use Rattle.msc_acceptance.specs.Deciding.{IsDecided, body_groups, graph_groups, table_groups, text_groups}
use Rattle.msc_acceptance.specs.declared.deciding.Decision.TheVariants as decision
use Rattle.msc_meaning.specs.Views.{table_view}
use Rattle.msc_acceptance.specs.Acceptance.{HasFault}
use Rattle.msc_base.specs.declared.place.Place.{Place}
use Rattle.msc_rules.specs.declared.rule.Rule.{Rule}
use Rattle.msc_acceptance.proofs.AcceptLaws.{accepted, accepted_faultless, has_fault, kept_left, kept_right, only_fault}
use Rattle.msc_acceptance.proofs.AcceptedLaws.{accepted_table}
use Rattle.msc_acceptance.proofs.OneTable.{one_table}
use Rattle.msc_acceptance.proofs.acceptance.accept.Goals as goal

pub returns-in-Ok-Faulty-clause-fault : goal.returns-in-Ok-Faulty-clause-fault
returns-in-Ok-Faulty-clause-fault c =
    let d = document_view c.args.raw in
    let decided : IsDecided (map chart_view c.args.raw.charts.items) (decision.Faulty c.in-Ok-Faulty.fault) = search rules in
    let own = has_fault d c.in-Ok-Faulty.fault decided in
    λ rule place e.
    let r : c.in-Ok-Faulty.fault.rule ≡ rule = cc in
    let p : c.in-Ok-Faulty.fault.place ≡ place = cc in
    subst (λ (q : Place). HasFault d rule q) p (subst (λ (x : Rule). HasFault d x c.in-Ok-Faulty.fault.place) r own)

pub returns-in-Ok-Faulty-clause-only_fault : goal.returns-in-Ok-Faulty-clause-only_fault
returns-in-Ok-Faulty-clause-only_fault c =
    let d = document_view c.args.raw in
    let decided : IsDecided (map chart_view c.args.raw.charts.items) (decision.Faulty c.in-Ok-Faulty.fault) = search rules in
    let own = has_fault d c.in-Ok-Faulty.fault decided in
    λ rule place e other there f.
    let r : c.in-Ok-Faulty.fault.rule ≡ rule = cc in
    let p : c.in-Ok-Faulty.fault.place ≡ place = cc in
    let o = only_fault d _ other c.in-Ok-Faulty.fault.place there own f in
    (o.0 ∙ r, o.1 ∙ p)

pub returns-in-Ok-Accepted-clause-ok : goal.returns-in-Ok-Accepted-clause-ok
returns-in-Ok-Accepted-clause-ok c =
    let decided : IsDecided (map chart_view c.args.raw.charts.items) (decision.Accepted c.in-Ok-Accepted.accepted) = search rules in
    accepted (document_view c.args.raw) (table_view c.in-Ok-Accepted.accepted) decided.0 decided.1

pub returns-in-Ok-Accepted-clause-only : goal.returns-in-Ok-Accepted-clause-only
returns-in-Ok-Accepted-clause-only c =
    let decided : IsDecided (map chart_view c.args.raw.charts.items) (decision.Accepted c.in-Ok-Accepted.accepted) = search rules in
    λ other k. one_table (map chart_view c.args.raw.charts.items) (table_view c.in-Ok-Accepted.accepted) other decided.1 k

pub returns-in-Ok-Accepted-clause-charts : goal.returns-in-Ok-Accepted-clause-charts
returns-in-Ok-Accepted-clause-charts c =
    let charts = map chart_view c.args.raw.charts.items in
    let decided : IsDecided charts (decision.Accepted c.in-Ok-Accepted.accepted) = search rules in
    let others = body_groups ++ (table_groups ++ graph_groups) in
    let texts = kept_left charts text_groups others decided.0 in
    let behind = kept_right charts body_groups (table_groups ++ graph_groups) (kept_right charts text_groups others decided.0) in
    let together = kept_left charts table_groups graph_groups behind in
    let drawn = kept_right charts table_groups graph_groups behind in
    accepted_table c.built_charts_are_known.ensures c.woven_charts_are_known.ensures charts c.requires.formed texts (table_view c.in-Ok-Accepted.accepted) decided.1 c.levels_have_gates.ensures c.join_sizes_are_known.ensures c.requires.graphs together drawn decided.2 decided.3

pub returns-in-Ok-Accepted-clause-faultless : goal.returns-in-Ok-Accepted-clause-faultless
returns-in-Ok-Accepted-clause-faultless c =
    let decided : IsDecided (map chart_view c.args.raw.charts.items) (decision.Accepted c.in-Ok-Accepted.accepted) = search rules in
    accepted_faultless (document_view c.args.raw) (table_view c.in-Ok-Accepted.accepted) (accepted (document_view c.args.raw) (table_view c.in-Ok-Accepted.accepted) decided.0 decided.1)

pub returns-in-Ok-Faulty-clause-none : goal.returns-in-Ok-Faulty-clause-none
returns-in-Ok-Faulty-clause-none c =
    let d = document_view c.args.raw in
    let decided : IsDecided (map chart_view c.args.raw.charts.items) (decision.Faulty c.in-Ok-Faulty.fault) = search rules in
    let own = has_fault d c.in-Ok-Faulty.fault decided in
    λ rule place e table a. accepted_faultless d table a c.in-Ok-Faulty.fault.rule c.in-Ok-Faulty.fault.place own
