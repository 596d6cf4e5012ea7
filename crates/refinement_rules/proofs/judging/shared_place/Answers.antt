use Rattle.std.proofs.Common.{sym, subst}
use Rattle.refinement_rules.specs.Earliest.{SharedIn}
use Rattle.refinement_rules.specs.Judging.{DeclHolds, OfRefining}
use Rattle.msc_base.specs.Places.{IsLeast}
use Rattle.refinement_rules.specs.Walks.{OneHolds, SoFarOr}
use Rattle.refinement_rules.proofs.Walked.{least_if, place_end, place_step, places_start}
use Rattle.refinement_rules.proofs.judging.shared_place.Goals as goal

pub loop-decl-init : goal.loop-decl-init
loop-decl-init c = places_start c.args.so_far (OneHolds (DeclHolds (SharedIn c.args.tables.now.names c.args.tables.now.expanded.items c.args.sharing.shared.now c.args.sharing.taken.now)) c.args.decls.now)

pub loop-decl-preserved : goal.loop-decl-preserved
loop-decl-preserved c =
    place_step (DeclHolds (SharedIn c.args.tables.now.names c.args.tables.now.expanded.items c.args.sharing.shared.now c.args.sharing.taken.now)) (SoFarOr c.args.so_far (OneHolds (DeclHolds (SharedIn c.args.tables.now.names c.args.tables.now.expanded.items c.args.sharing.shared.now c.args.sharing.taken.now)) c.args.decls.now)) c.args.decls.now c.loop-decl.decl-index c.decl-item.result c.loop-decl.best c.earlier_if-best.result c.loop-decl-test.true c.decl-item.is
    (subst (λ o. IsLeast (SoFarOr c.loop-decl.best (DeclHolds (SharedIn c.args.tables.now.names c.args.tables.now.expanded.items c.args.sharing.shared.now c.args.sharing.taken.now) c.decl-item.result)) o) (sym c.earlier_if-best.ensures) (least_if c.loop-decl.best c.decl-item.result.place c.decl_shares.result (OfRefining ((SharedIn c.args.tables.now.names c.args.tables.now.expanded.items c.args.sharing.shared.now c.args.sharing.taken.now) c.decl-item.result.name) c.decl-item.result.refined) c.decl_shares.ensures)) c.loop-decl.invariant

pub returns : goal.returns
returns c = place_end (DeclHolds (SharedIn c.args.tables.now.names c.args.tables.now.expanded.items c.args.sharing.shared.now c.args.sharing.taken.now)) (SoFarOr c.args.so_far (OneHolds (DeclHolds (SharedIn c.args.tables.now.names c.args.tables.now.expanded.items c.args.sharing.shared.now c.args.sharing.taken.now)) c.args.decls.now)) c.args.decls.now c.loop-decl.decl-index c.loop-decl.best c.loop-decl-test.false c.loop-decl.invariant
