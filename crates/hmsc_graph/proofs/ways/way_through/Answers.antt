use Rattle.hmsc_graph.specs.Spots.{spot_of, goal_of}
use Rattle.hmsc_graph.proofs.WayFacts.{no_walk}
use Rattle.hmsc_graph.proofs.ways.way_through.Goals as goal

pub returns-clause-none : goal.returns-clause-none
returns-clause-none c =
    no_walk c.args.net.now c.args.allowed.now.nodes (spot_of c.args.from) (goal_of c.args.to) c.in_ok-steps.steps c.in_ok-steps.ensures.all c.in-None.ensures.none
