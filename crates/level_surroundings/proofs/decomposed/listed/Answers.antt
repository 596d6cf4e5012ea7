use Rattle.level_surroundings.proofs.RefinementFacts.{declared_more}
use Rattle.level_surroundings.proofs.decomposed.listed.Goals as goal

pub loop-decl-preserved : goal.loop-decl-preserved
loop-decl-preserved c =
    let decls = c.args.decls.now in
    record {
      seen = declared_more decls c.loop-decl.decl-index c.decl-item.result c.loop-decl.seen c.add_refinement.new.seen c.loop-decl-test.true c.decl-item.is c.loop-decl.invariant.seen c.in_ok-add_refinement.ensures.seen;
      list = c.in_ok-add_refinement.ensures.list decls c.in_ok-charts.ensures c.loop-decl.invariant.list;
    }
