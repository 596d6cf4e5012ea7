use Rattle.refinement_rules.specs.Judging.{DeclHolds, MismatchBy}
use Rattle.msc_meaning.specs.ItemViews.{items_view}
use Rattle.msc_meaning.specs.Views.{table_view}
use Rattle.refinement_rules.specs.Walks.{OneHolds, SoFarOr}
use Rattle.refinement_rules.proofs.Walked.{place_end, place_step, places_start}
use Rattle.refinement_rules.proofs.mismatching.mismatch_place.Goals as goal

pub loop-decl-init : goal.loop-decl-init
loop-decl-init c = places_start c.args.so_far (OneHolds (DeclHolds (MismatchBy (table_view c.args.table.charts.now) (items_view c.args.items.now))) c.args.decls.now)

pub loop-decl-preserved : goal.loop-decl-preserved
loop-decl-preserved c =
    place_step (DeclHolds (MismatchBy (table_view c.args.table.charts.now) (items_view c.args.items.now))) (SoFarOr c.args.so_far (OneHolds (DeclHolds (MismatchBy (table_view c.args.table.charts.now) (items_view c.args.items.now))) c.args.decls.now)) c.args.decls.now c.loop-decl.decl-index c.decl-item.result c.loop-decl.best c.in_ok-next.next c.loop-decl-test.true c.decl-item.is
    c.in_ok-next.ensures c.loop-decl.invariant

pub returns : goal.returns
returns c = place_end (DeclHolds (MismatchBy (table_view c.args.table.charts.now) (items_view c.args.items.now))) (SoFarOr c.args.so_far (OneHolds (DeclHolds (MismatchBy (table_view c.args.table.charts.now) (items_view c.args.items.now))) c.args.decls.now)) c.args.decls.now c.loop-decl.decl-index c.loop-decl.best c.loop-decl-test.false c.loop-decl.invariant
