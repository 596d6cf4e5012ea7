use Rattle.std.proofs.Common.{◌≡◌, drop, map}
use Rattle.msc_tree.specs.Statements.{items, operands, statements}
use Rattle.msc_tree.specs.Views.{item_view, operand_view, statement_view}
use Rattle.msc_print.specs.StatementWords.{items_words, operands_words, statements_words}
use Rattle.msc_print.specs.Pages.{put_all}
use Rattle.msc_print.proofs.Putting.{operands_left}
use Rattle.msc_print.proofs.statement.+statements.Given as goal

-- what is still to be written, behind what was, is the whole
abbrev pub invariant-operands-loop-held : goal.invariant-operands-loop-held
invariant-operands-loop-held l =
    put_all l.page (operands_left l.first l.word (operands (map operand_view (drop l.held-index l.list)))) ≡ put_all l.initial.page (operands_words l.word (operands (map operand_view l.list)))

abbrev pub invariant-items-loop-held : goal.invariant-items-loop-held
invariant-items-loop-held l = put_all l.page (items_words (items (map item_view (drop l.held-index l.list)))) ≡ put_all l.initial.page (items_words (items (map item_view l.list)))

abbrev pub invariant-statements-loop-held : goal.invariant-statements-loop-held
invariant-statements-loop-held l =
    put_all l.page (statements_words (statements (map statement_view (drop l.held-index l.list)))) ≡ put_all l.initial.page (statements_words (statements (map statement_view l.list)))
