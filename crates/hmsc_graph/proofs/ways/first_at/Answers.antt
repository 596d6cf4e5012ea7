use Rattle.std.proofs.Common.{◌∙◌, arith, sym}
use Rattle.hmsc_graph.specs.Spots.{goal_of}
use Rattle.hmsc_graph.proofs.WayFacts.{node_in, none_more, none_there}
use Rattle.hmsc_graph.proofs.ways.first_at.Goals as goal

pub arrives-requires : goal.arrives-requires
arrives-requires c = c.requires c.at.result.now.node (node_in c.args.steps.now c.loop-index.index c.at.result.now c.at.ensures)

pub loop-index-preserved : goal.loop-index-preserved
loop-index-preserved c =
    none_more c.args.net.now (goal_of c.args.to) c.args.steps.now c.loop-index.index c.at.result.now c.at.ensures (sym c.arrives.ensures ∙ c.if-arrives.false) c.loop-index.invariant

pub returns-clause-none : goal.returns-clause-none
returns-clause-none c =
    none_there c.args.net.now (goal_of c.args.to) c.args.steps.now (λ j step lt. c.loop-index.invariant j step (omega (arith, lt, c.len-index-end.ensures, c.loop-index-test.false)))
