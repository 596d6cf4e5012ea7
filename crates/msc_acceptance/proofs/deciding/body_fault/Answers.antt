use Rattle.std.proofs.Common.{rules, ◌≡◌, None, Some, Option, subst}
use Rattle.msc_base.specs.Places.{IsLeast}
use Rattle.msc_base.specs.declared.place.Place.{Place}
use Rattle.msc_acceptance.specs.ChartFaults.{CrossesAt, IsAloneAt}
use Rattle.msc_acceptance.specs.Rules.{InOne}
use Rattle.msc_acceptance.proofs.AcceptLaws.{alone_first, bodies_kept, crossed_first}
use Rattle.msc_acceptance.proofs.deciding.body_fault.Goals as goal

pub returns-in-Some-clause-first : goal.returns-in-Some-clause-first
returns-in-Some-clause-first c = λ charts h.
    let e : c.args.faults.crossed ≡ Some c.in-Some.place = search rules in
    crossed_first charts c.in-Some.place (subst (λ (o : Option Place). IsLeast (InOne CrossesAt charts) o) e h.crossed)

pub returns-in-Some-alone-clause-first : goal.returns-in-Some-alone-clause-first
returns-in-Some-alone-clause-first c = λ charts h.
    let e : c.args.faults.crossed ≡ None = search rules in
    let f : c.args.faults.alone ≡ Some c.in-Some-alone.place = search rules in
    alone_first charts c.in-Some-alone.place (subst (λ (o : Option Place). IsLeast (InOne CrossesAt charts) o) e h.crossed) (subst (λ (o : Option Place). IsLeast (InOne IsAloneAt charts) o) f (h.alone e))

pub returns-clause-first : goal.returns-clause-first
returns-clause-first c = λ charts h.
    let e : c.args.faults.crossed ≡ None = search rules in
    let f : c.args.faults.alone ≡ None = search rules in
    bodies_kept charts (subst (λ (o : Option Place). IsLeast (InOne CrossesAt charts) o) e h.crossed) (subst (λ (o : Option Place). IsLeast (InOne IsAloneAt charts) o) f (h.alone e))
