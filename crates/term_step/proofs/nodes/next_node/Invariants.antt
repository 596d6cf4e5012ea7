use Rattle.std.proofs.Common.{ℕ, ◌≤◌, ◌<◌, IfSome}
use Rattle.chart_term.specs.Terms.{Walk}
use Rattle.hmsc_graph.specs.Spots.{spot_of, goal_of}
use Rattle.term_step.specs.Reaching.{IsReachOfMet}
use Rattle.term_step.specs.Searches.{IsPassed}
use Rattle.term_step.proofs.nodes.next_node.Given as goal

abbrev pub invariant-loop-index : goal.invariant-loop-index
invariant-loop-index l = IfSome l.within (IsReachOfMet l.nets.tables l.way.net (spot_of l.way.from) l.way.own.now.instances l.met l.one_place)
    × ((q : ℕ) → l.from ≤ q → q < l.index → IsPassed l.nets.tables l.label (Walk l.way.net (spot_of l.way.from) (goal_of l.way.to) l.way.own.now.instances) q)
