use Rattle.std.proofs.Common.{◌≡◌, [], Option, map, subst, sym, ap₂, ◌∙◌}
use Rattle.msc_base.specs.Places.{IsLeast}
use Rattle.msc_base.specs.declared.place.Place.{Place}
use Rattle.msc_rules.specs.declared.first_fault.Broken.{Broken}
use Rattle.msc_rules.specs.FirstFaults.{IsBest, earlier_of, fault_of}
use Rattle.msc_rules.specs.declared.rule.Rule.{Rule}
use Rattle.msc_rules.specs.declared.rule.Rule.TheVariants.{NamedTwice, Undeclared}
use Rattle.msc_rules.specs.Rules.{number_of}
use Rattle.msc_instances.specs.NameFaults.{ChartNamesTwice}
use Rattle.msc_acceptance.specs.Acceptance.{BreaksOf}
use Rattle.msc_acceptance.specs.Deciding.{names}
use Rattle.msc_acceptance.specs.Rules.{InOne, IsNamedAgain}
use Rattle.msc_tree.specs.Views.{chart_view}
use Rattle.msc_acceptance.proofs.GroupLaws.{two_best}
use Rattle.msc_acceptance.proofs.WalkLaws.{either_least}
use Rattle.msc_acceptance.proofs.deciding.name_fault.Goals as goal

pub returns : goal.returns
returns c =
    let charts = map chart_view c.args.charts.now in
    let twice : IsLeast (BreaksOf charts NamedTwice) c.earlier.result =
    subst (λ (o : Option Place). IsLeast (BreaksOf charts NamedTwice) o) (sym c.earlier.ensures)
    (either_least (IsNamedAgain [] charts) (InOne ChartNamesTwice charts) c.in_ok-again.again c.args.places.twice c.in_ok-again.ensures c.requires.twice) in
    let both : c.earlier_fault.result ≡ earlier_of number_of (fault_of NamedTwice c.earlier.result) (fault_of Undeclared c.args.places.undeclared) =
    c.earlier_fault.ensures ∙ ap₂ (λ (x y : Option (Broken Rule)). earlier_of number_of x y) c.broken_at-twice.ensures c.broken_at-other.ensures in
    subst (λ (x : Option (Broken Rule)). IsBest number_of (BreaksOf charts) names x) (sym both) (two_best charts NamedTwice Undeclared c.earlier.result c.args.places.undeclared twice c.requires.undeclared)
