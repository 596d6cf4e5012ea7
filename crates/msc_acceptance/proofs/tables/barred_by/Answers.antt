use Rattle.std.proofs.Common.{◌≡◌, Option, None, Some, subst, sym, ◌∙◌}
use Rattle.std.proofs.lemmas.Option.{none-some}
use Rattle.level_weaving.specs.declared.weaving.WeaveFault.{WeaveFault}
use Rattle.msc_base.specs.Places.{IsLeast}
use Rattle.msc_base.specs.declared.place.Place.{Place}
use Rattle.msc_tree.specs.Charts.{Chart}
use Rattle.msc_tree.specs.Views.{chart_view}
use Rattle.msc_acceptance.specs.ChartFaults.{CrossesAt, IsAloneAt}
use Rattle.msc_acceptance.specs.Deciding.{IsBarred, IsWeaveFault}
use Rattle.msc_acceptance.specs.declared.tables.BodyFaults.{BodyFaults}
use Rattle.msc_acceptance.proofs.ChartLaws.{alone_of, crossed_of, uncrossed_of}
use Rattle.msc_acceptance.proofs.tables.barred_by.Goals as goal

-- columns cross there
barred_crossed : (c : Chart) (p : Place) (f : BodyFaults) → f.crossed ≡ Some p → IsLeast (CrossesAt c) (Some p) → IsBarred c f
barred_crossed c p f e least = (
  λ w. none-some p (sym (sym e ∙ w.0)),
  record {
    crossed = subst (λ (o : Option Place). IsLeast (CrossesAt c) o) (sym e) least;
    alone = λ n. absurd (none-some p (sym (sym e ∙ n)));
    unknown = λ w. absurd (none-some p (sym (sym e ∙ w.0)));
    twice = λ w. absurd (none-some p (sym (sym e ∙ w.0)));
  },
)

-- a message lacks its partner there
barred_alone : (c : Chart) (p : Place) (f : BodyFaults) → f.crossed ≡ None → f.alone ≡ Some p → IsLeast (CrossesAt c) None → IsLeast (IsAloneAt c) (Some p) → IsBarred c f
barred_alone c p f n e uncrossed least = (
  λ w. none-some p (sym (sym e ∙ w.1)),
  record {
    crossed = subst (λ (o : Option Place). IsLeast (CrossesAt c) o) (sym n) uncrossed;
    alone = λ m. subst (λ (o : Option Place). IsLeast (IsAloneAt c) o) (sym e) least;
    unknown = λ w. absurd (none-some p (sym (sym e ∙ w.1)));
    twice = λ w. absurd (none-some p (sym (sym e ∙ w.1)));
  },
)

pub returns-in-Crossed : goal.returns-in-Crossed
returns-in-Crossed c =
    let chart = chart_view c.args.chart.now in
    let fault : IsWeaveFault chart _ = subst (λ (f : WeaveFault). IsWeaveFault chart f) c.in-Crossed.is c.requires in
    barred_crossed chart c.in-Crossed.place c.barring.result c.barring.ensures.crossed (crossed_of chart c.in-Crossed.place fault)

pub returns-in-Unmatched : goal.returns-in-Unmatched
returns-in-Unmatched c =
    let chart = chart_view c.args.chart.now in
    let fault : IsWeaveFault chart _ = subst (λ (f : WeaveFault). IsWeaveFault chart f) c.in-Unmatched.is c.requires in
    barred_alone chart c.in-Unmatched.place c.barring-in-Unmatched.result c.barring-in-Unmatched.ensures.crossed c.barring-in-Unmatched.ensures.alone
    (uncrossed_of chart c.in-Unmatched.place fault) (alone_of chart c.in-Unmatched.place fault)
