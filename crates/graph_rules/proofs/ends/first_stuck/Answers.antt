use Rattle.std.proofs.Common.{◌+◌}
use Rattle.graph_rules.specs.StuckLines.{HasStuckLine}
use Rattle.graph_rules.proofs.GraphFacts.{least_is, stuck_all, stuck_none, stuck_step}
use Rattle.graph_rules.proofs.ends.first_stuck.Goals as goal

pub loop-index-init : goal.loop-index-init
loop-index-init c = stuck_none c.args.lines.now c.args.stuck.now.nodes

pub loop-index-preserved : goal.loop-index-preserved
loop-index-preserved c =
    least_is (HasStuckLine c.args.lines.now (c.loop-index.index + 1) c.args.stuck.now.nodes) c.earlier_if-found.result c.earlier_if-found.ensures
    (stuck_step c.args.lines.now c.loop-index.index c.args.stuck.now.nodes c.index-lines-index.result c.place_of.result c.has.result c.loop-index.found c.loop-index-test.true c.index-lines-index.is c.place_of.ensures c.has.ensures.has.0 c.has.ensures.has.1 c.loop-index.invariant)

pub returns : goal.returns
returns c = stuck_all c.args.lines.now c.args.stuck.now.nodes c.loop-index.index c.loop-index.found c.loop-index-test.false c.loop-index.invariant
