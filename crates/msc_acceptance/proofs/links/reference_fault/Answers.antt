use Rattle.std.proofs.Common.{◌≡◌, Option, subst, sym, ap₂, ◌∙◌}
use Rattle.msc_rules.specs.declared.first_fault.Broken.{Broken}
use Rattle.msc_rules.specs.FirstFaults.{IsBest, earlier_of, fault_of}
use Rattle.msc_rules.specs.declared.rule.Rule.{Rule}
use Rattle.msc_rules.specs.declared.rule.Rule.TheVariants.{MissingChart, Recursive, Uncovered}
use Rattle.msc_rules.specs.Rules.{number_of}
use Rattle.msc_acceptance.specs.Acceptance.{BreaksOf}
use Rattle.msc_acceptance.specs.Deciding.{references}
use Rattle.msc_acceptance.proofs.GroupLaws.{three_best}
use Rattle.msc_acceptance.proofs.links.reference_fault.Goals as goal

pub returns : goal.returns
returns c = λ charts h k l.
    let p = c.args.places in
    let two : c.earlier_fault.result ≡ earlier_of number_of (fault_of MissingChart p.missing) (fault_of Recursive p.recursive) =
    c.earlier_fault.ensures ∙ ap₂ (λ (x y : Option (Broken Rule)). earlier_of number_of x y) c.broken_at-missing.ensures c.broken_at-recursive.ensures in
    let three : c.earlier_fault-2.result ≡ earlier_of number_of (earlier_of number_of (fault_of MissingChart p.missing) (fault_of Recursive p.recursive)) (fault_of Uncovered p.uncovered) =
    c.earlier_fault-2.ensures ∙ ap₂ (λ (x y : Option (Broken Rule)). earlier_of number_of x y) two c.broken_at-uncovered.ensures in
    subst (λ (x : Option (Broken Rule)). IsBest number_of (BreaksOf charts) references x) (sym three) (three_best charts MissingChart Recursive Uncovered p.missing p.recursive p.uncovered h k l)
