use Rattle.std.proofs.Common.{◌↔◌, IsTrue, IfOk, List, subst}
use Rattle.std.proofs.lemmas.Result.{IfOk-weaker}
use Rattle.chart_term.specs.Terms.{Tree}
use Rattle.trace_judge.specs.Sets.{HasEnding}
use Rattle.trace_judge.proofs.RunLaws.{tells_ends}
use Rattle.term_sets.specs.Memories.{held_set}
use Rattle.term_sets.proofs.pool.PoolStore.may_end.Goals as goal

pub returns-clause-finishes : goal.returns-clause-finishes
returns-clause-finishes c = λ x labels h r.
    let e = subst (λ (l : List Tree). IfOk c.one_may_end.result (λ ends. IsTrue ends ↔ HasEnding c.args.nets.now l)) c.set.ensures c.one_may_end.ensures in
    IfOk-weaker c.one_may_end.result _ _ (λ b i. tells_ends c.args.nets.now x labels (held_set c.args.self.now).terms b i h r) e
