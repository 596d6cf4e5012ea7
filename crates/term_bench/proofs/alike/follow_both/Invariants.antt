use Rattle.term_bench.proofs.alike.follow_both.Given as goal

abbrev pub invariant-loop-index : goal.invariant-loop-index
invariant-loop-index g l = g.S.Store.serves l.first l.nets × g.T.Store.serves l.second l.nets
