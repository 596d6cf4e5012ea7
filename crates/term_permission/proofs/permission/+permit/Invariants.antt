use Rattle.std.proofs.Common.{◌≡◌, ◌+◌, ◌*◌, ◌≤◌, take, drop, length, false, Some}
use Rattle.chart_term.specs.NormalForms.{begun, only}
use Rattle.chart_term.specs.PartLists.{AreTurns}
use Rattle.chart_term.specs.Rows.{part_of, parts_of}
use Rattle.chart_term.specs.Terms.{trees}
use Rattle.term_laws.specs.Permission.{permit, permit_some, permits_of}
use Rattle.term_permission.specs.Lefts.{mode_of, opened_left}
use Rattle.term_permission.specs.RowRests.{keep_parts}
use Rattle.term_laws.specs.Values.{block_of}
use Rattle.term_laws.proofs.Measures.{rank_in, rank_part, rank_row}
use Rattle.term_permission.proofs.permission.+permit.Given as goal

abbrev pub decreases-permit_term : goal.decreases-permit_term
decreases-permit_term l = 8 * rank_in l.nets.now.tables l.term.now

abbrev pub decreases-permit_parts : goal.decreases-permit_parts
decreases-permit_parts l = 8 * rank_row l.nets.now.tables l.parts.now + 3

abbrev pub decreases-permit_items : goal.decreases-permit_items
decreases-permit_items l = 8 * rank_row l.nets.now.tables (parts_of l.items.now) + 2

abbrev pub decreases-permit_choice : goal.decreases-permit_choice
decreases-permit_choice l = 8 * rank_row l.nets.now.tables l.parts.now + 2

abbrev pub decreases-permit_loop : goal.decreases-permit_loop
decreases-permit_loop l = 8 * (rank_in l.nets.now.tables l.turns.body.now + rank_row l.nets.now.tables l.turns.row.now) + 7

abbrev pub decreases-keep_parts : goal.decreases-keep_parts
decreases-keep_parts l = 8 * (rank_in l.nets.now.tables l.turns.body.now + rank_row l.nets.now.tables l.parts.now) + 6

abbrev pub decreases-keep_items : goal.decreases-keep_items
decreases-keep_items l = 8 * (rank_in l.nets.now.tables l.turns.body.now + rank_row l.nets.now.tables (parts_of l.items.now)) + 5

abbrev pub decreases-keep_part : goal.decreases-keep_part
decreases-keep_part l = 8 * (rank_in l.nets.now.tables l.turns.body.now + rank_part l.nets.now.tables (part_of l.part.now)) + 4

abbrev pub invariant-permit_items-loop-index : goal.invariant-permit_items-loop-index
invariant-permit_items-loop-index l = record {
  within : l.index ≤ length l.items;
  turns : AreTurns l.kept;
  kept : opened_left (permits_of l.nets.tables) (block_of l.block) (mode_of l.joint) (begun (drop l.index (parts_of l.items))) ≡ Some (begun l.kept);
  same : l.changed ≡ false → begun l.kept ≡ begun (drop l.index (parts_of l.items));
}

abbrev pub decreases-permit_items-loop-index : goal.decreases-permit_items-loop-index
decreases-permit_items-loop-index l = l.index

abbrev pub invariant-permit_choice-loop-index : goal.invariant-permit_choice-loop-index
invariant-permit_choice-loop-index l = record {
  kept : permit_some (permits_of l.nets.tables) (block_of l.block) (trees (take l.index (begun l.parts))) ≡ l.kept;
  same : l.changed ≡ false → l.kept ≡ take l.index (begun l.parts);
}

abbrev pub invariant-keep_items-loop-index : goal.invariant-keep_items-loop-index
invariant-keep_items-loop-index l = record {
  within : l.index ≤ length l.items;
  kept : keep_parts (λ c. permit (permits_of l.nets.tables) (only c) l.turns.body.now) (λ y. permit (permits_of l.nets.tables) (block_of l.by.whole.now) y) l.turns.upper l.by.narrow.now.instances (drop l.index (parts_of l.items)) l.initial.end ≡ Some l.end;
}

abbrev pub decreases-keep_items-loop-index : goal.decreases-keep_items-loop-index
decreases-keep_items-loop-index l = l.index
