use Rattle.std.proofs.Common.{◌∙◌, arith}
use Rattle.chart_term.specs.NormalForms.{begun}
use Rattle.chart_term.proofs.Turns.{begun-length}
use Rattle.term_firsts.proofs.Entering.{one_more, row_part_ready, whole_row}
use Rattle.term_firsts.proofs.firsts.enter_row.Goals as goal

pub loop-index-preserved : goal.loop-index-preserved
loop-index-preserved c = record {
  size = c.in_ok-enter_part.ensures.size ∙ c.loop-index.invariant.size;
  some = λ w r.
      let xs = begun c.args.parts.now in
      one_more w xs c.loop-index.index c.term_at.result.now c.loop-index.held.nodes c.enter_part.new.held.nodes c.args.search.now c.loop-index.search c.enter_part.new.search c.term_at.ensures
      (c.loop-index.invariant.some w r) (c.in_ok-enter_part.ensures.enters w (row_part_ready w xs c.loop-index.index c.term_at.result.now c.term_at.ensures r));
}

pub returns : goal.returns
returns c = λ w r. whole_row w (begun c.args.parts.now) c.loop-index.index c.loop-index.held.nodes c.args.search.now c.loop-index.search (omega (arith, begun-length c.args.parts.now c.requires, c.len-index-end.ensures, c.loop-index-test.false)) (c.loop-index.invariant.some w r)
