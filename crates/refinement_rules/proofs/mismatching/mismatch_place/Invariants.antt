use Rattle.std.proofs.Common.{drop}
use Rattle.msc_base.proofs.Narrowing.{Narrows}
use Rattle.refinement_rules.specs.Judging.{DeclHolds, MismatchBy}
use Rattle.msc_meaning.specs.ItemViews.{items_view}
use Rattle.msc_meaning.specs.Views.{table_view}
use Rattle.refinement_rules.specs.Walks.{OneHolds, SoFarOr}
use Rattle.refinement_rules.proofs.mismatching.mismatch_place.Given as goal

abbrev pub invariant-loop-decl : goal.invariant-loop-decl
invariant-loop-decl l = Narrows (SoFarOr l.fn.so_far (OneHolds (DeclHolds (MismatchBy (table_view l.table.charts.now) (items_view l.items))) l.decls)) (OneHolds (DeclHolds (MismatchBy (table_view l.table.charts.now) (items_view l.items))) (drop l.decl-index l.decls)) l.best
