use Rattle.std.proofs.Common.{◌≡◌, drop, map}
use Rattle.msc_tree.specs.Expressions.{expressions}
use Rattle.msc_tree.specs.Views.{expression_view}
use Rattle.msc_print.specs.ExpressionWords.{operator_words}
use Rattle.msc_print.specs.Pages.{put_all}
use Rattle.msc_print.proofs.Putting.{parts_left}
use Rattle.msc_print.proofs.expression.+expressions.Given as goal

-- what is still to be written, behind what was, is the whole
abbrev pub invariant-joined-loop-other : goal.invariant-joined-loop-other
invariant-joined-loop-other l =
    put_all l.page (parts_left l.first l.operator l.word (expressions (map expression_view (drop l.other-index l.parts)))) ≡ put_all l.initial.page (operator_words l.operator l.word (expressions (map expression_view l.parts)))
