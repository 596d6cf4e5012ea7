use Rattle.empty_terms.specs.Answers.{IsOneYes}
use Rattle.empty_terms.proofs.emptiness.one_is.Given as goal

abbrev pub invariant-loop-part : goal.invariant-loop-part
invariant-loop-part l = IsOneYes l.answers l.first l.part → ⊥
