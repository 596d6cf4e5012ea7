use Rattle.std.proofs.Common.{drop}
use Rattle.expansion_tree.specs.Views.{expansions_view}
use Rattle.expansion_order.specs.Precedence.{HasSomeLoopRound, HaveAllLoopsRank}
use Rattle.expansion_order.proofs.ordering.+loops.Given as goal

abbrev pub invariant-have_loop_round-loop-part : goal.invariant-have_loop_round-loop-part
invariant-have_loop_round-loop-part l = record {
  cyclic : HasSomeLoopRound (expansions_view (drop l.part-index l.parts)) → HasSomeLoopRound (expansions_view l.parts);
  ranked : HaveAllLoopsRank (expansions_view (drop l.part-index l.parts)) → HaveAllLoopsRank (expansions_view l.parts);
}
