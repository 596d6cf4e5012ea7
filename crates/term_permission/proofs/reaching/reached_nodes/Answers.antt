use Rattle.hmsc_graph.specs.Spots.{spot_of}
use Rattle.term_permission.proofs.PermitWalks.{reached-exact}
use Rattle.term_permission.proofs.reaching.reached_nodes.Goals as goal

pub returns : goal.returns
returns c =
    reached-exact c.args.nets.now.tables c.args.net c.args.block.now.instances (spot_of c.args.from) c.in_ok-nodes.nodes.passed.nodes c.in_ok-nodes.nodes.full c.in_ok-nodes.ensures.net c.in_ok-nodes.ensures.nodes
    c.net.result.now c.net.ensures.net c.in_ok-reached.reached.nodes c.in_ok-reached.ensures.nodes
