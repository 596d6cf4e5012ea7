use Rattle.std.proofs.Common.{◌≡◌, Option, subst, sym, ap, ap₂, ◌∙◌}
use Rattle.msc_base.specs.declared.place.Place.{Place}
use Rattle.msc_rules.specs.declared.first_fault.Broken.{Broken}
use Rattle.msc_rules.specs.FirstFaults.{IsBest, earlier_of, fault_of}
use Rattle.msc_rules.specs.declared.rule.Rule.{Rule}
use Rattle.msc_rules.specs.declared.rule.Rule.TheVariants.{DecompositionMismatch, Inside, LocalEvent, SharedPart}
use Rattle.msc_rules.specs.Rules.{number_of}
use Rattle.msc_acceptance.specs.Acceptance.{BreaksOf}
use Rattle.msc_acceptance.specs.Deciding.{decompositions}
use Rattle.msc_acceptance.specs.Deciding as deciding
use Rattle.msc_acceptance.proofs.RefinementPlaces.{refinements_best}
use Rattle.msc_acceptance.proofs.refinements.first_fault.Goals as goal

abbrev first_of : Option (Broken Rule) → Option (Broken Rule) → Option (Broken Rule)
first_of x y = earlier_of number_of x y

pub returns : goal.returns
returns c = λ charts table are h k.
    let p = c.args.places in
    let last_is : c.broken_at-local.result ≡ fault_of LocalEvent (deciding.earlier_of c.args.coregion p.local) = c.broken_at-local.ensures ∙ ap (fault_of LocalEvent) c.earlier.ensures in
    let two : c.earlier_fault.result ≡ first_of (fault_of DecompositionMismatch p.mismatch) (fault_of SharedPart p.shared) = c.earlier_fault.ensures ∙ ap₂ first_of c.broken_at-mismatch.ensures c.broken_at-shared.ensures in
    let three : c.earlier_fault-2.result ≡ first_of (first_of (fault_of DecompositionMismatch p.mismatch) (fault_of SharedPart p.shared)) (fault_of Inside p.inside) = c.earlier_fault-2.ensures ∙ ap₂ first_of two c.broken_at-inside.ensures in
    let all : c.earlier_fault-3.result ≡ first_of (first_of (first_of (fault_of DecompositionMismatch p.mismatch) (fault_of SharedPart p.shared)) (fault_of Inside p.inside)) (fault_of LocalEvent (deciding.earlier_of c.args.coregion p.local)) =
    c.earlier_fault-3.ensures ∙ ap₂ first_of three last_is in
    subst (λ (x : Option (Broken Rule)). IsBest number_of (BreaksOf charts) decompositions x) (sym all) (refinements_best charts table are p c.args.coregion h k)
