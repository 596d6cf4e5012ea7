use Rattle.term_bench.specs.Statements.{AreStatements}
use Rattle.term_bench.proofs.statements.events.Given as goal

abbrev pub invariant-loop-number : goal.invariant-loop-number
invariant-loop-number l = AreStatements l.count l.parts l.number
