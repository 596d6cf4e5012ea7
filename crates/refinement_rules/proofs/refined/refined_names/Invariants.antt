use Rattle.msc_base.specs.Lists.{IsAmong}
use Rattle.refinement_rules.proofs.Walked.{IsWalked}
use Rattle.refinement_rules.specs.Judging.{Decomposes}
use Rattle.refinement_rules.proofs.refined.refined_names.Given as goal

abbrev pub invariant-loop-decl : goal.invariant-loop-decl
invariant-loop-decl l = IsWalked Decomposes (λ n. ⊥) (IsAmong l.table) l.decls l.decl-index
