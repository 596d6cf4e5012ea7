use Rattle.std.proofs.Common.{◌≡◌, ◌+◌, length}
use Rattle.hmsc_graph.specs.Reversals.{way_of}
use Rattle.hmsc_graph.specs.Graphs.{Start}
use Rattle.hmsc_graph.specs.Searches.{IsSearch, missing}
use Rattle.hmsc_graph.proofs.search.search.Given as goal

abbrev pub invariant-loop-node : goal.invariant-loop-node
invariant-loop-node l = record {
  size : l.search.reached.size ≡ length l.next;
  search : IsSearch (way_of l.firsts l.next) l.allowed.nodes Start l.search.reached.nodes l.search.waiting.items;
}

abbrev pub decreases-loop-node : goal.decreases-loop-node
decreases-loop-node l = missing l.search.reached.nodes l.search.reached.size + length l.search.waiting.items
