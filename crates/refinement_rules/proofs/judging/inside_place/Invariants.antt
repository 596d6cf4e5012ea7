use Rattle.std.proofs.Common.{drop}
use Rattle.msc_base.proofs.Narrowing.{Narrows}
use Rattle.refinement_rules.specs.Judging.{DeclHolds, InsideIn}
use Rattle.refinement_rules.specs.Walks.{OneHolds, SoFarOr}
use Rattle.refinement_rules.proofs.judging.inside_place.Given as goal

abbrev pub invariant-loop-decl : goal.invariant-loop-decl
invariant-loop-decl l = Narrows (SoFarOr l.fn.so_far (OneHolds (DeclHolds (InsideIn l.names l.inside)) l.decls)) (OneHolds (DeclHolds (InsideIn l.names l.inside)) (drop l.decl-index l.decls)) l.best
