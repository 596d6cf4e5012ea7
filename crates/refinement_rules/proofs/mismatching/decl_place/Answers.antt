use Rattle.std.proofs.Common.{◌∙◌, sym, subst}
use Rattle.msc_base.specs.Places.{IsLeast}
use Rattle.msc_meaning.specs.ItemViews.{items_view}
use Rattle.msc_meaning.specs.Views.{table_view}
use Rattle.refinement_rules.specs.Judging.{DeclHolds, MismatchBy, OfRefining}
use Rattle.refinement_rules.specs.Walks.{SoFarOr}
use Rattle.refinement_rules.proofs.Walked.{least_if, least_late}
use Rattle.refinement_rules.proofs.mismatching.decl_place.Goals as goal

pub returns-then-not-is_wanted : goal.returns-then-not-is_wanted
returns-then-not-is_wanted c =
    let d = c.args.decl.now in
    least_late c.args.so_far d.place (OfRefining (MismatchBy (table_view c.args.table.charts.now) (items_view c.args.items.now) d.name) d.refined) (sym c.is_wanted.ensures ∙ c.if-not-is_wanted.true)

pub returns : goal.returns
returns c =
    let d = c.args.decl.now in
    let Holds = MismatchBy (table_view c.args.table.charts.now) (items_view c.args.items.now) in
    subst (IsLeast (SoFarOr c.args.so_far (DeclHolds Holds d))) (sym c.earlier_if.ensures) (least_if c.args.so_far d.place c.in_ok-holds.holds (OfRefining (Holds d.name) d.refined) c.in_ok-holds.ensures)
