use Rattle.std.proofs.Common.{◌≡◌, Option, subst, sym, ap₂, ◌∙◌}
use Rattle.msc_rules.specs.declared.first_fault.Broken.{Broken}
use Rattle.msc_rules.specs.FirstFaults.{IsBest, earlier_of, fault_of}
use Rattle.msc_rules.specs.declared.rule.Rule.{Rule}
use Rattle.msc_rules.specs.declared.rule.Rule.TheVariants.{EventNamedTwice, UnknownEvent}
use Rattle.msc_rules.specs.Rules.{number_of}
use Rattle.msc_acceptance.specs.Acceptance.{BreaksOf}
use Rattle.msc_acceptance.specs.Deciding.{event_names}
use Rattle.msc_acceptance.proofs.GroupLaws.{two_best}
use Rattle.msc_acceptance.proofs.gates.event_name_fault.Goals as goal

pub returns : goal.returns
returns c = λ charts h.
    let both : c.earlier_fault.result ≡ earlier_of number_of (fault_of UnknownEvent c.args.faults.unknown) (fault_of EventNamedTwice c.args.faults.twice) =
    c.earlier_fault.ensures ∙ ap₂ (λ (x y : Option (Broken Rule)). earlier_of number_of x y) c.broken_at-unknown.ensures c.broken_at-twice.ensures in
    subst (λ (x : Option (Broken Rule)). IsBest number_of (BreaksOf charts) event_names x) (sym both)
    (two_best charts UnknownEvent EventNamedTwice c.args.faults.unknown c.args.faults.twice (h.unknown c.requires.whole) (h.twice c.requires.whole))
