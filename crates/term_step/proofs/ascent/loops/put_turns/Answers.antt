use Rattle.std.proofs.Common.{arith, ◌-◌, Some}
use Rattle.chart_term.specs.Rows.{part_of}
use Rattle.term_step.proofs.Ascending.{tail-more}
use Rattle.term_step.proofs.ascent.loops.put_turns.Goals as goal

pub loop-index-preserved : goal.loop-index-preserved
loop-index-preserved c = record {
  within = omega arith;
  end = tail-more (Some 0) c.args.parts.now (c.loop-index.index - 1) c.loop-index.index (part_of c.at.result.now) c.loop-index.end c.args.end.now c.put_turn.new.end c.at.ensures (omega arith) c.loop-index.invariant.end c.in_ok-put_turn.ensures;
}
