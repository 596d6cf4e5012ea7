use Rattle.std.proofs.Common.{◌+◌, ◌*◌, take}
use Rattle.chart_term.specs.Rows.{part_of, parts_of}
use Rattle.chart_term.specs.Sizes.{nodes, part_nodes, parts_nodes}
use Rattle.chart_term.specs.Spreads.{touch_row}
use Rattle.chart_term.specs.Terms.{row_of}
use Rattle.term_tables.specs.NetTables.{spread_at}
use Rattle.term_tables.specs.Unions.{IsUnion}
use Rattle.term_tables.proofs.touched.+touched.Given as goal

abbrev pub decreases-add_term : goal.decreases-add_term
decreases-add_term l = 2 * nodes l.term.now

abbrev pub decreases-add_row : goal.decreases-add_row
decreases-add_row l = 2 * parts_nodes l.row.now

abbrev pub decreases-add_part : goal.decreases-add_part
decreases-add_part l = 2 * part_nodes (part_of l.part.now) + 1

abbrev pub invariant-add_row-loop-part : goal.invariant-add_row-loop-part
invariant-add_row-loop-part l = IsUnion l.fn.block.instances (touch_row (spread_at l.stored) (row_of (parts_of (take l.part-index l.parts)))) l.block.instances
