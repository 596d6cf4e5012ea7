use Rattle.std.proofs.Common.{◌+◌, ◌<◌, List, ℕ, arith, take, subst, get_or, length}
use Rattle.std.proofs.lemmas.List.{take_more, take_all}
use Rattle.hmsc_graph.specs.Reversals.{HasEdges}
use Rattle.hmsc_graph.proofs.MemberFacts.{in_at}
use Rattle.hmsc_graph.proofs.EdgeFacts.{edges_none, edge_more}
use Rattle.hmsc_graph.proofs.net.add_edges.Goals as goal

pub loop-to-init : goal.loop-to-init
loop-to-init c = edges_none c.args.back.now c.args.node

pub bounds-back-to : goal.bounds-back-to
bounds-back-to c =
    let below : get_or c.args.next.now c.loop-to.to-index 0 < length c.args.back.now = c.requires _ (in_at c.args.next.now c.loop-to.to-index c.loop-to-test.true) in
    omega (arith, below, c.loop-to.auto.back)

pub loop-to-preserved : goal.loop-to-preserved
loop-to-preserved c =
    let to = get_or c.args.next.now c.loop-to.to-index 0 in
    let below : to < length c.args.back.now = c.requires _ (in_at c.args.next.now c.loop-to.to-index c.loop-to-test.true) in
    edge_more c.args.back.now c.args.node (take c.loop-to.to-index c.args.next.now) (take (c.loop-to.to-index + 1) c.args.next.now) c.loop-to.back to c.index-back-to.result c.push.new.self
    (take_more c.args.next.now c.loop-to.to-index 0 c.loop-to-test.true) c.loop-to.invariant (omega (arith, below, c.loop-to.auto.back)) c.in_ok-push.ensures.ok

pub returns : goal.returns
returns c = subst (λ (l : List ℕ). HasEdges c.args.back.now c.args.node l c.loop-to.back) (take_all c.loop-to.to-index c.args.next.now c.loop-to-test.false) c.loop-to.invariant
