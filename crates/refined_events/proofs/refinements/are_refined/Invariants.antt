use Rattle.std.proofs.Common.{drop}
use Rattle.refined_events.proofs.Unrefined.{Unrefined}
use Rattle.refined_events.proofs.refinements.are_refined.Given as goal

abbrev pub invariant-loop-decl : goal.invariant-loop-decl
invariant-loop-decl l = Unrefined (drop l.decl-index l.decls) → Unrefined l.decls
