use Rattle.std.proofs.Common.{◌+◌, ◌-◌, length}
use Rattle.hmsc_graph.specs.Searches.{missing}
use Rattle.hmsc_graph.specs.Spots.{spot_of}
use Rattle.hmsc_graph.specs.Steps.{IsSearched}
use Rattle.hmsc_graph.proofs.ways.steps_from.Given as goal

abbrev pub invariant-loop-index : goal.invariant-loop-index
invariant-loop-index l = IsSearched l.net l.allowed.nodes (spot_of l.fn.from) l.met l.steps l.index

abbrev pub decreases-loop-index : goal.decreases-loop-index
decreases-loop-index l = missing l.met.nodes l.met.size + length l.steps - l.index
