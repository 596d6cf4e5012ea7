use Rattle.std.proofs.Common.{◌≡◌, ◌↔◌, IsTrue, [], List, subst}
use Rattle.chart_term.specs.Terms.{Tree}
use Rattle.term_sets.specs.Memories.{held_set}
use Rattle.trace_judge.proofs.RunLaws.{tells_empty}
use Rattle.term_sets.proofs.pool.PoolStore.is_empty.Goals as goal

pub returns-clause-begins : goal.returns-clause-begins
returns-clause-begins c = λ v x labels h r. tells_empty v x labels (held_set c.args.self.now).terms c.is_empty.result
    (subst (λ (l : List Tree). IsTrue c.is_empty.result ↔ (l ≡ [])) c.set.ensures c.is_empty.ensures) h r
