use Rattle.std.proofs.Common.{rules, ◌≡◌, None, Some, Option, subst}
use Rattle.msc_meaning.specs.Views.{table_view}
use Rattle.msc_rules.specs.declared.first_fault.Broken.{Broken}
use Rattle.msc_rules.specs.FirstFaults.{IsBest}
use Rattle.msc_rules.specs.declared.rule.Rule.{Rule}
use Rattle.msc_rules.specs.Rules.{number_of}
use Rattle.msc_acceptance.specs.Acceptance.{BreaksOf}
use Rattle.msc_acceptance.specs.Deciding.{decompositions, gates}
use Rattle.msc_acceptance.proofs.AcceptLaws.{decomposition_first, event_name_first, gate_first}
use Rattle.msc_acceptance.proofs.gates.table_fault.Goals as goal

pub returns-in-Some : goal.returns-in-Some
returns-in-Some c = λ charts are known h.
    let e : c.gate_fault.result ≡ Some c.in-Some.fault = search rules in
    gate_first charts c.in-Some.fault (subst (λ (o : Option (Broken Rule)). IsBest number_of (BreaksOf charts) gates o) e (c.gate_fault.ensures charts (table_view c.args.entries.now) are c.in_ok-places.ensures))

pub returns-in-Some-2 : goal.returns-in-Some-2
returns-in-Some-2 c = λ charts are known h.
    let e : c.gate_fault.result ≡ None = search rules in
    let f : c.in_ok-fault.field-0 ≡ Some c.in-Some-2.fault = search rules in
    decomposition_first charts c.in-Some-2.fault (subst (λ (o : Option (Broken Rule)). IsBest number_of (BreaksOf charts) gates o) e (c.gate_fault.ensures charts (table_view c.args.entries.now) are c.in_ok-places.ensures))
    (subst (λ (o : Option (Broken Rule)). IsBest number_of (BreaksOf charts) decompositions o) f (c.in_ok-fault.ensures charts are known))

pub returns : goal.returns
returns c = λ charts are known h.
    let e : c.gate_fault.result ≡ None = search rules in
    let f : c.in_ok-fault.field-0 ≡ None = search rules in
    event_name_first charts c.event_name_fault.result (subst (λ (o : Option (Broken Rule)). IsBest number_of (BreaksOf charts) gates o) e (c.gate_fault.ensures charts (table_view c.args.entries.now) are c.in_ok-places.ensures))
    (subst (λ (o : Option (Broken Rule)). IsBest number_of (BreaksOf charts) decompositions o) f (c.in_ok-fault.ensures charts are known)) (c.event_name_fault.ensures charts h)
