use Rattle.std.proofs.Common.{inr}
use Rattle.term_step.proofs.Passes.{lacks-none}
use Rattle.term_step.proofs.descent.below_tie.Goals as goal

pub returns-then-not-may_have : goal.returns-then-not-may_have
returns-then-not-may_have c = inr (lacks-none c.args.label c.args.inner.now (c.may_have.ensures c.if-not-may_have.true))
