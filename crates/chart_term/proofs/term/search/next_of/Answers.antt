use Rattle.std.proofs.Common.{arith}
use Rattle.chart_term.specs.Rows.{part_of, parts_of}
use Rattle.chart_term.proofs.Cuts.{held_at}
use Rattle.chart_term.proofs.Passing.{passed_next}
use Rattle.chart_term.proofs.term.search.next_of.Goals as goal

pub loop-at-preserved : goal.loop-at-preserved
loop-at-preserved c = record {
  behind = omega (arith, c.loop-at.invariant.behind);
  passed = passed_next (parts_of c.args.parts.now) c.args.from c.loop-at.at c.args.label c.args.skip.now.instances (part_of c.index-parts-at.result) (held_at c.args.parts.now c.loop-at.at c.index-parts-at.result c.loop-at-test.true c.index-parts-at.is) (c.is_passed.ensures c.if-not-is_passed.false) c.loop-at.invariant.passed;
}
