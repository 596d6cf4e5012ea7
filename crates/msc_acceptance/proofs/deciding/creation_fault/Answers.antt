use Rattle.std.proofs.Common.{◌≡◌, Option, subst, sym, ap₂, ◌∙◌}
use Rattle.msc_rules.specs.declared.first_fault.Broken.{Broken}
use Rattle.msc_rules.specs.FirstFaults.{IsBest, earlier_of, fault_of}
use Rattle.msc_rules.specs.declared.rule.Rule.{Rule}
use Rattle.msc_rules.specs.declared.rule.Rule.TheVariants.{AfterStop, CreatePlace, CreateTwice}
use Rattle.msc_rules.specs.Rules.{number_of}
use Rattle.msc_acceptance.specs.Acceptance.{BreaksOf}
use Rattle.msc_acceptance.specs.Deciding.{creations}
use Rattle.msc_acceptance.proofs.GroupLaws.{three_best}
use Rattle.msc_acceptance.proofs.deciding.creation_fault.Goals as goal

pub returns : goal.returns
returns c = λ charts are.
    let p = c.args.places in
    let two : c.earlier_fault.result ≡ earlier_of number_of (fault_of CreatePlace p.creation) (fault_of CreateTwice p.child) =
    c.earlier_fault.ensures ∙ ap₂ (λ (x y : Option (Broken Rule)). earlier_of number_of x y) c.broken_at-placed.ensures c.broken_at-twice.ensures in
    let three : c.earlier_fault-2.result ≡ earlier_of number_of (earlier_of number_of (fault_of CreatePlace p.creation) (fault_of CreateTwice p.child)) (fault_of AfterStop p.behind) =
    c.earlier_fault-2.ensures ∙ ap₂ (λ (x y : Option (Broken Rule)). earlier_of number_of x y) two c.broken_at-after.ensures in
    subst (λ (x : Option (Broken Rule)). IsBest number_of (BreaksOf charts) creations x) (sym three)
    (three_best charts CreatePlace CreateTwice AfterStop p.creation p.child p.behind are.creation are.child are.behind)
