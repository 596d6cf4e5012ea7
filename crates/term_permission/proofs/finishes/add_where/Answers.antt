use Rattle.term_permission.proofs.PassingFacts.{added}
use Rattle.term_permission.proofs.finishes.add_where.Goals as goal

pub returns-then-test-clause-nodes : goal.returns-then-test-clause-nodes
returns-then-test-clause-nodes c n = added _ _ _ _ (c.add.ensures.nodes n) c.if-test.true
