use Rattle.std.proofs.Common.{◌≡◌, ap, arith, length}
use Rattle.chart_term.specs.Tables.{net_of, nodes_of}
use Rattle.hmsc_graph.specs.Nets.{size_of}
use Rattle.hmsc_graph.specs.Spots.{spot_of, goal_of}
use Rattle.term_permission.proofs.NodeTerms.{sizes-are}
use Rattle.term_step.proofs.Passes.{node-more, node-done}
use Rattle.term_step.proofs.Unreached.{node-passed}
use Rattle.term_step.proofs.nodes.next_node.Goals as goal

pub loop-index-preserved : goal.loop-index-preserved
loop-index-preserved c =
    let none = rw c.in_default.is at c.in_ok-inner.ensures in
    let passed = node-passed c.args.nets.now.tables c.args.label c.args.way.net (spot_of c.args.way.from) (goal_of c.args.way.to) c.args.way.own.now.instances c.requires.own c.args.met.now c.requires.met c.args.one_place c.requires.placed
    _ c.loop-index.invariant.0 c.loop-index.index none in
    (c.loop-index.invariant.0, node-more c.args.nets.now.tables c.args.label c.args.way.net (spot_of c.args.way.from) (goal_of c.args.way.to) c.args.way.own.now.instances c.args.from c.loop-index.index c.loop-index.invariant.1 passed)

pub returns : goal.returns
returns c =
    let size : size_of c.net.result.now ≡ size_of (net_of c.args.nets.now.tables c.args.way.net) = ap size_of c.net.ensures.net in
    let sized : size_of (net_of c.args.nets.now.tables c.args.way.net) ≡ length (nodes_of c.args.nets.now.tables c.args.way.net) = sizes-are c.args.nets.now.tables c.requires.tables c.args.way.net c.requires.net in
    node-done c.args.nets.now.tables c.args.label c.args.way.net (spot_of c.args.way.from) (goal_of c.args.way.to) c.args.way.own.now.instances c.args.from c.loop-index.index (omega (arith, c.size-size.ensures.size, c.loop-index-test.false)) c.loop-index.invariant.1
