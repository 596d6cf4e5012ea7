use Rattle.std.proofs.Common.{◌≡◌, Option, true, subst, sym, ◌∙◌}
use Rattle.level_weaving.specs.Exceptions.{IsMisplaced}
use Rattle.msc_base.specs.Places.{IsLeast}
use Rattle.msc_base.specs.declared.place.Place.{Place}
use Rattle.msc_tree.specs.Views.{chart_view}
use Rattle.shared_parts.specs.PartRules.{ChartBreaksPartRule}
use Rattle.shared_parts.specs.declared.faults.PartRule.TheVariants.{NotShared, OperandsDiffer}
use Rattle.msc_acceptance.specs.SingleItems.{is_single_chart}
use Rattle.msc_acceptance.proofs.SingleLaws.{exceptions_kept, parts_kept}
use Rattle.msc_acceptance.proofs.parts.own_places.Goals as goal

pub returns-then-single : goal.returns-then-single
returns-then-single c =
    let chart = chart_view c.args.chart.now in
    let none = c.no_places.ensures in
    let single : is_single_chart chart ≡ true = sym c.requires.single ∙ c.if-single.true in
    record {
      unshared = subst (λ (o : Option Place). IsLeast (ChartBreaksPartRule NotShared chart) o) (sym none.unshared) (parts_kept NotShared chart single);
      differing = subst (λ (o : Option Place). IsLeast (ChartBreaksPartRule OperandsDiffer chart) o) (sym none.differing) (parts_kept OperandsDiffer chart single);
      misplaced = subst (λ (o : Option Place). IsLeast (IsMisplaced chart) o) (sym none.misplaced) (exceptions_kept chart single);
    }
