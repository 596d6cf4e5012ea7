use Rattle.expansion_terms.proofs.MadeSteps.{AreMadeTo}
use Rattle.expansion_terms.proofs.terms.+terms.Given as goal

abbrev pub invariant-made_terms-loop-part : goal.invariant-made_terms-loop-part
invariant-made_terms-loop-part l = AreMadeTo l.parts l.part-index l.fn.nets l.nets l.terms
