use Rattle.std.proofs.Common.{◌≡◌, ◌++◌, drop, map}
use Rattle.chart_text.specs.PassageViews.{scope_view, standing_view, text_view}
use Rattle.chart_text.specs.Texts.{items_text, operands_text, statements_text}
use Rattle.msc_tree.specs.Statements.{items, operands, statements}
use Rattle.msc_tree.specs.Views.{item_view, operand_view, statement_view}
use Rattle.chart_text.proofs.walk.+text.Given as goal

abbrev pub invariant-items-loop-held : goal.invariant-items-loop-held
invariant-items-loop-held l =
    text_view l.text.items ++ items_text (standing_view l.standing) (items (map item_view (drop l.held-index l.list)))
    ≡ text_view l.initial.text.items ++ items_text (standing_view l.standing) (items (map item_view l.list))

abbrev pub invariant-operands-loop-held : goal.invariant-operands-loop-held
invariant-operands-loop-held l =
    text_view l.text.items ++ operands_text (standing_view l.standing) (operands (map operand_view (drop l.held-index l.list)))
    ≡ text_view l.initial.text.items ++ operands_text (standing_view l.standing) (operands (map operand_view l.list))

abbrev pub invariant-statements-loop-held : goal.invariant-statements-loop-held
invariant-statements-loop-held l =
    text_view l.text.items ++ statements_text l.depth (scope_view l.scope) (statements (map statement_view (drop l.held-index l.list)))
    ≡ text_view l.initial.text.items ++ statements_text l.depth (scope_view l.scope) (statements (map statement_view l.list))
