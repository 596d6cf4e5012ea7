use Rattle.level_surroundings.proofs.RefinementFacts.{none_refined, plain_more}
use Rattle.level_surroundings.proofs.decomposed.none_refined.Goals as goal

pub loop-decl-preserved : goal.loop-decl-preserved
loop-decl-preserved c = λ name.
    plain_more c.args.decls.now c.loop-decl.decl-index c.decl-item.result name c.loop-decl-test.true c.decl-item.is (c.is_plain.ensures c.if-not-is_plain.false) (c.loop-decl.invariant name)

pub returns : goal.returns
returns c = λ h. none_refined c.args.decls.now c.loop-decl.decl-index c.loop-decl-test.false c.loop-decl.invariant
