use Rattle.std.proofs.Common.{List, ℕ, subst}
use Rattle.msc_base.specs.Lists.{IsAmong}
use Rattle.refinement_rules.proofs.Walked.{grown_step, grown_whole, grown_none}
use Rattle.refinement_rules.specs.Judging.{Decomposes}
use Rattle.refinement_rules.proofs.refined.refined_names.Goals as goal

pub loop-decl-init : goal.loop-decl-init
loop-decl-init c = grown_none Decomposes (IsAmong c.new-table.result) c.args.decls.now (λ n h. subst (λ (l : List (List ℕ)). IsAmong l n) c.new-table.ensures h)

pub loop-decl-preserved : goal.loop-decl-preserved
loop-decl-preserved c =
    grown_step Decomposes (λ n. ⊥) (IsAmong c.loop-decl.table) (IsAmong c.add_refined.new.table) c.args.decls.now c.loop-decl.decl-index c.decl-item.result c.loop-decl-test.true c.decl-item.is c.in_ok-add_refined.ensures c.loop-decl.invariant

pub returns : goal.returns
returns c = grown_whole Decomposes (λ n. ⊥) (IsAmong c.loop-decl.table) c.args.decls.now c.loop-decl.decl-index (λ n h. h) c.loop-decl-test.false c.loop-decl.invariant
