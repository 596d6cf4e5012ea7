use Rattle.std.proofs.Common.{◌≡◌, [], ◌∷◌, Option, map, subst, sym, ap₂, ◌∙◌}
use Rattle.msc_rules.specs.declared.first_fault.Broken.{Broken}
use Rattle.msc_rules.specs.FirstFaults.{IsBest, earlier_of, fault_of}
use Rattle.msc_rules.specs.declared.rule.Rule.{Rule}
use Rattle.msc_rules.specs.declared.rule.Rule.TheVariants.{ExcPlace, NotShared, OperandsDiffer}
use Rattle.msc_rules.specs.Rules.{number_of}
use Rattle.msc_rules.proofs.Joining.{best_of_both}
use Rattle.msc_acceptance.specs.Acceptance.{BreaksOf}
use Rattle.msc_acceptance.specs.Deciding.{creations, parts}
use Rattle.msc_tree.specs.Views.{chart_view}
use Rattle.msc_acceptance.proofs.GroupLaws.{three_best}
use Rattle.msc_acceptance.proofs.deciding.part_fault.Goals as goal

pub returns : goal.returns
returns c =
    let charts = map chart_view c.args.charts.now in
    let p = c.in_ok-places.places in
    let two : c.earlier_fault.result ≡ earlier_of number_of (fault_of NotShared p.unshared) (fault_of OperandsDiffer p.differing) =
    c.earlier_fault.ensures ∙ ap₂ (λ (x y : Option (Broken Rule)). earlier_of number_of x y) c.broken_at-unshared.ensures c.broken_at-differing.ensures in
    let three : c.earlier_fault-2.result ≡ earlier_of number_of (earlier_of number_of (fault_of NotShared p.unshared) (fault_of OperandsDiffer p.differing)) (fault_of ExcPlace p.misplaced) =
    c.earlier_fault-2.ensures ∙ ap₂ (λ (x y : Option (Broken Rule)). earlier_of number_of x y) two c.broken_at-misplaced.ensures in
    let first : IsBest number_of (BreaksOf charts) (NotShared ∷ OperandsDiffer ∷ ExcPlace ∷ []) c.earlier_fault-2.result =
    subst (λ (x : Option (Broken Rule)). IsBest number_of (BreaksOf charts) (NotShared ∷ OperandsDiffer ∷ ExcPlace ∷ []) x) (sym three)
    (three_best charts NotShared OperandsDiffer ExcPlace p.unshared p.differing p.misplaced c.in_ok-places.ensures.unshared c.in_ok-places.ensures.differing c.in_ok-places.ensures.misplaced) in
    subst (λ (x : Option (Broken Rule)). IsBest number_of (BreaksOf charts) parts x) (sym c.earlier_fault-3.ensures)
    (best_of_both number_of (BreaksOf charts) (NotShared ∷ OperandsDiffer ∷ ExcPlace ∷ []) creations c.earlier_fault-2.result c.creation_fault-others.result first (c.creation_fault-others.ensures charts c.requires.places))
