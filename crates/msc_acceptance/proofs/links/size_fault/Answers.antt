use Rattle.std.proofs.Common.{◌≡◌, Option, subst, sym, ap₂, ◌∙◌}
use Rattle.chart_extents.specs.ExtentRules.{AreTooLarge, IsTooDeep, IsTooLarge}
use Rattle.msc_rules.specs.declared.first_fault.Broken.{Broken}
use Rattle.msc_rules.specs.FirstFaults.{IsBest, earlier_of, fault_of}
use Rattle.msc_rules.specs.declared.rule.Rule.{Rule}
use Rattle.msc_rules.specs.declared.rule.Rule.TheVariants.{ExpandedNesting, Size, Total}
use Rattle.msc_rules.specs.Rules.{number_of}
use Rattle.msc_acceptance.specs.Acceptance.{BreaksOf}
use Rattle.msc_acceptance.specs.Deciding.{sizes}
use Rattle.msc_acceptance.proofs.GroupLaws.{three_best}
use Rattle.msc_acceptance.proofs.LinkLaws.{least_of_sizes}
use Rattle.msc_acceptance.proofs.links.size_fault.Goals as goal

pub returns : goal.returns
returns c = λ charts joined are deep large total.
    let law = c.join_sizes_are_known.ensures in
    let p = c.args.places in
    let two : c.earlier_fault.result ≡ earlier_of number_of (fault_of ExpandedNesting p.deep) (fault_of Size p.large) =
    c.earlier_fault.ensures ∙ ap₂ (λ (x y : Option (Broken Rule)). earlier_of number_of x y) c.broken_at-deep.ensures c.broken_at-large.ensures in
    let three : c.earlier_fault-2.result ≡ earlier_of number_of (earlier_of number_of (fault_of ExpandedNesting p.deep) (fault_of Size p.large)) (fault_of Total p.total) =
    c.earlier_fault-2.ensures ∙ ap₂ (λ (x y : Option (Broken Rule)). earlier_of number_of x y) two c.broken_at-total.ensures in
    subst (λ (x : Option (Broken Rule)). IsBest number_of (BreaksOf charts) sizes x) (sym three) (three_best charts ExpandedNesting Size Total p.deep p.large p.total (least_of_sizes law charts joined are IsTooDeep p.deep deep) (least_of_sizes law charts joined are IsTooLarge p.large large)
    (least_of_sizes law charts joined are AreTooLarge p.total total))
