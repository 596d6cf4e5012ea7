use Rattle.std.proofs.Common.{map}
use Rattle.msc_tree.specs.declared.statement.RawInline.{out-RawInline}
use Rattle.msc_tree.specs.Statements.{items, operands}
use Rattle.msc_tree.specs.Views.{item_view, operand_view}
use Rattle.msc_print.specs.StatementWords.{items_words}
use Rattle.msc_print.proofs.Endings.{at_ok, column_done, inline_done, inline_view_is}
use Rattle.msc_print.proofs.statement.+statements.Goals as goal

pub inline-returns : goal.inline-returns
inline-returns t c =
    let i = out-RawInline c.args.inline.now in
    at_ok c.end.result _ _ c.end.ensures (λ e.
    rw (e, c.in_ok-word-3.ensures, c.in_ok-word-2.ensures, c.in_ok-operands.ensures, c.in_ok-begun.ensures, c.in_ok-bounds_of.ensures, c.in_ok-word.ensures, c.word-word.ensures, c.as_slice.ensures.value, inline_view_is c.args.inline.now) (inline_done c.args.page.now _ (operands (map operand_view i.operands.items))))

pub column-returns : goal.column-returns
column-returns t c =
    at_ok c.end-2.result _ _ c.end-2.ensures (λ e.
    rw (e, c.in_ok-word-2.ensures, c.in_ok-items.ensures, c.in_ok-end.ensures, c.in_ok-decl.ensures, c.in_ok-word.ensures) (column_done c.args.page.now c.args.held.now (items_words (items (map item_view c.args.list.now)))))
