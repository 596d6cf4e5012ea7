use Rattle.empty_terms.specs.Answers.{AreAllYes}
use Rattle.empty_terms.proofs.emptiness.all_are.Given as goal

abbrev pub invariant-loop-part : goal.invariant-loop-part
invariant-loop-part l = AreAllYes l.answers l.first l.part
