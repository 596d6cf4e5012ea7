use Rattle.std.proofs.Common.{drop}
use Rattle.msc_base.proofs.Narrowing.{Narrows}
use Rattle.refinement_rules.specs.Earliest.{SharedIn}
use Rattle.refinement_rules.specs.Judging.{DeclHolds}
use Rattle.refinement_rules.specs.Walks.{OneHolds, SoFarOr}
use Rattle.refinement_rules.proofs.judging.shared_place.Given as goal

abbrev pub invariant-loop-decl : goal.invariant-loop-decl
invariant-loop-decl l = Narrows (SoFarOr l.fn.so_far (OneHolds (DeclHolds (SharedIn l.tables.names l.tables.expanded.items l.sharing.shared.now l.sharing.taken.now)) l.decls)) (OneHolds (DeclHolds (SharedIn l.tables.names l.tables.expanded.items l.sharing.shared.now l.sharing.taken.now)) (drop l.decl-index l.decls)) l.best
