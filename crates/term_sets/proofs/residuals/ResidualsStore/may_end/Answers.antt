use Rattle.std.proofs.Common.{◌↔◌, IsTrue, IfOk, subst}
use Rattle.std.proofs.lemmas.Result.{IfOk-weaker}
use Rattle.trace_judge.specs.Sets.{SetValue, HasEnding}
use Rattle.trace_judge.proofs.RunLaws.{tells_ends}
use Rattle.term_sets.proofs.residuals.ResidualsStore.may_end.Goals as goal

pub returns-clause-finishes : goal.returns-clause-finishes
returns-clause-finishes c = λ x labels h r.
    let e = subst (λ (s : SetValue). IfOk c.one_may_end.result (λ ends. IsTrue ends ↔ HasEnding c.args.nets.now s.terms)) c.self.view_is c.one_may_end.ensures in
    IfOk-weaker c.one_may_end.result _ _ (λ b i. tells_ends c.args.nets.now x labels c.args.self.now.terms b i h r) e
