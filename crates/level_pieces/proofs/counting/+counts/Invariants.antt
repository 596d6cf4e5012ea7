use Rattle.std.proofs.Common.{◌≡◌, ◌+◌, drop, map}
use Rattle.msc_meaning.specs.Pieces.{items_count, operands_count, statements_count}
use Rattle.msc_tree.specs.Statements.{items, operands, statements}
use Rattle.msc_tree.specs.Views.{item_view, operand_view, statement_view}
use Rattle.level_pieces.proofs.counting.+counts.Given as goal

abbrev pub invariant-items_count-loop-held : goal.invariant-items_count-loop-held
invariant-items_count-loop-held l = l.total + items_count (items (map item_view (drop l.held-index l.list))) ≡ items_count (items (map item_view l.list))

abbrev pub invariant-operands_count-loop-held : goal.invariant-operands_count-loop-held
invariant-operands_count-loop-held l = l.total + operands_count (operands (map operand_view (drop l.held-index l.list))) ≡ operands_count (operands (map operand_view l.list))

abbrev pub invariant-statements_count-loop-held : goal.invariant-statements_count-loop-held
invariant-statements_count-loop-held l = l.total + statements_count (statements (map statement_view (drop l.held-index l.list))) ≡ statements_count (statements (map statement_view l.list))
