use Rattle.std.proofs.Common.{arith}
use Rattle.chart_term.specs.NormalForms.{begun}
use Rattle.chart_term.proofs.Turns.{begun-length}
use Rattle.term_sets.proofs.Choosing.{item_there, more_apart}
use Rattle.term_sets.proofs.subsets.are_apart.Goals as goal

pub loop-index-preserved : goal.loop-index-preserved
loop-index-preserved c =
    let xs = begun c.args.parts.now in
    let i = c.loop-index.index in
    let l = begun-length c.args.parts.now c.requires in
    let there = item_there xs i (omega (arith, l, c.len-index-end.ensures, c.loop-index-test.true)) in
    more_apart xs i there.0 there.1 c.loop-index.invariant (c.stands_before.ensures c.if-stands_before.false)
