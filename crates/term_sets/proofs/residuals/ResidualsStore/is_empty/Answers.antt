use Rattle.std.proofs.Common.{◌≡◌, ◌↔◌, IsTrue, [], subst}
use Rattle.trace_judge.specs.Sets.{SetValue}
use Rattle.trace_judge.proofs.RunLaws.{tells_empty}
use Rattle.term_sets.proofs.residuals.ResidualsStore.is_empty.Goals as goal

pub returns-clause-begins : goal.returns-clause-begins
returns-clause-begins c = λ v x labels h r. tells_empty v x labels c.args.self.now.terms c.is_empty.result (subst (λ (s : SetValue). IsTrue c.is_empty.result ↔ (s.terms ≡ [])) c.self.view_is c.is_empty.ensures) h r
