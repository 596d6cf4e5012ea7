use Rattle.std.proofs.Common.{◌≡◌, ◌+◌, ◌*◌, ◌≤◌, take, drop, length, Some}
use Rattle.chart_term.specs.NormalForms.{allowed, begun, only}
use Rattle.chart_term.specs.Rows.{part_of, parts_of}
use Rattle.chart_term.specs.Tables.{net_of}
use Rattle.chart_term.specs.Terms.{trees}
use Rattle.hmsc_graph.specs.Nets.{size_of}
use Rattle.hmsc_graph.specs.Searches.{missing}
use Rattle.hmsc_graph.specs.Spots.{spot_of}
use Rattle.term_permission.specs.Lefts.{mode_of, opened_left}
use Rattle.term_permission.specs.Passing.{IsPassing}
use Rattle.term_permission.specs.Remnants.{SaysParts, SaysSome, Tallies, TalliesSome}
use Rattle.term_permission.specs.RowRests.{RowRest, keep_parts}
use Rattle.term_laws.specs.Permission.{permit, permit_some, permits_of}
use Rattle.term_laws.specs.Values.{block_of}
use Rattle.term_laws.proofs.Measures.{rank_in, rank_part, rank_row}
use Rattle.term_laws.proofs.TermSentences.{net_rank}
use Rattle.term_permission.proofs.asking.+ask.Given as goal

abbrev pub decreases-ask_term : goal.decreases-ask_term
decreases-ask_term l = 8 * rank_in l.nets.now.tables l.term.now

abbrev pub decreases-ask_parts : goal.decreases-ask_parts
decreases-ask_parts l = 8 * rank_row l.nets.now.tables l.parts.now + 3

abbrev pub decreases-ask_items : goal.decreases-ask_items
decreases-ask_items l = 8 * rank_row l.nets.now.tables (parts_of l.items.now) + 2

abbrev pub decreases-ask_choice : goal.decreases-ask_choice
decreases-ask_choice l = 8 * rank_row l.nets.now.tables l.parts.now + 2

abbrev pub decreases-ask_loop : goal.decreases-ask_loop
decreases-ask_loop l = 8 * (rank_in l.nets.now.tables l.turns.body.now + rank_row l.nets.now.tables l.turns.row.now) + 7

abbrev pub decreases-ask_row : goal.decreases-ask_row
decreases-ask_row l = 8 * (rank_in l.nets.now.tables l.turns.body.now + rank_row l.nets.now.tables l.parts.now) + 6

abbrev pub decreases-ask_row_items : goal.decreases-ask_row_items
decreases-ask_row_items l = 8 * (rank_in l.nets.now.tables l.turns.body.now + rank_row l.nets.now.tables (parts_of l.items.now)) + 5

abbrev pub decreases-ask_row_part : goal.decreases-ask_row_part
decreases-ask_row_part l = 8 * (rank_in l.nets.now.tables l.turns.body.now + rank_part l.nets.now.tables (part_of l.part.now)) + 4

abbrev pub decreases-ask_gap : goal.decreases-ask_gap
decreases-ask_gap l = 8 * rank_in l.nets.now.tables l.body.now + 3

abbrev pub decreases-ask_walk : goal.decreases-ask_walk
decreases-ask_walk l = 8 * net_rank l.nets.now.tables l.net + 2

abbrev pub decreases-passable : goal.decreases-passable
decreases-passable l = 8 * net_rank l.nets.now.tables l.net + 1

abbrev pub invariant-ask_items-loop-index : goal.invariant-ask_items-loop-index
invariant-ask_items-loop-index l = record {
  within : l.index ≤ length l.items;
  kept : SaysParts l.kept (opened_left (permits_of l.nets.tables) (block_of l.block) (mode_of l.fn.joint) (begun (drop l.index (parts_of l.items))));
}

abbrev pub decreases-ask_items-loop-index : goal.decreases-ask_items-loop-index
decreases-ask_items-loop-index l = l.index

abbrev pub invariant-ask_choice-loop-index : goal.invariant-ask_choice-loop-index
invariant-ask_choice-loop-index l = SaysSome l.kept (permit_some (permits_of l.nets.tables) (block_of l.block) (trees (take l.index (begun l.parts))))

abbrev pub invariant-ask_row_items-loop-index : goal.invariant-ask_row_items-loop-index
invariant-ask_row_items-loop-index l = record {
  within : l.index ≤ length l.items;
  kept : (r : RowRest) → Tallies l.fn.tally r → TalliesSome (Some l.kept) (keep_parts (λ c. permit (permits_of l.nets.tables) (only c) l.turns.body.now) (λ y. permit (permits_of l.nets.tables) (block_of l.by.whole.now) y) l.turns.upper l.by.narrow.now.instances (drop l.index (parts_of l.items)) r);
}

abbrev pub decreases-ask_row_items-loop-index : goal.decreases-ask_row_items-loop-index
decreases-ask_row_items-loop-index l = l.index

abbrev pub invariant-passable-loop-node : goal.invariant-passable-loop-node
invariant-passable-loop-node l = record {
  nodes : l.nodes.passed.size ≡ size_of (net_of l.nets.tables l.net);
  search : l.search.reached.size ≡ size_of (net_of l.nets.tables l.net);
  passing : IsPassing (net_of l.nets.tables l.net) (allowed (permits_of l.nets.tables) l.net l.block.instances) (λ m. (permits_of l.nets.tables).kept l.net m l.block.instances) (spot_of l.fn.from)
      l.search.reached.nodes l.search.waiting.items l.nodes.passed.nodes l.nodes.full;
}

abbrev pub decreases-passable-loop-node : goal.decreases-passable-loop-node
decreases-passable-loop-node l = missing l.search.reached.nodes l.search.reached.size + length l.search.waiting.items
