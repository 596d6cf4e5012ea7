use Rattle.std.proofs.Common.{◌≡◌, ◌||◌, drop}
use Rattle.refinement_rules.specs.Judging.{some_refined}
use Rattle.refinement_rules.proofs.refined.some_refined.Given as goal

abbrev pub invariant-loop-decl : goal.invariant-loop-decl
invariant-loop-decl l = (l.one || some_refined (drop l.decl-index l.decls)) ≡ some_refined l.decls
