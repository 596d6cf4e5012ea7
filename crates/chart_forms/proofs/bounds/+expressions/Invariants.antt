use Rattle.std.proofs.Common.{◌≡◌, drop, map}
use Rattle.chart_forms.specs.LoopBounds.{have_high_loop}
use Rattle.msc_tree.specs.Expressions.{expressions}
use Rattle.msc_tree.specs.Views.{expression_view}
use Rattle.chart_forms.proofs.bounds.+expressions.Given as goal

abbrev pub invariant-have_high_loop-loop-part : goal.invariant-have_high_loop-loop-part
invariant-have_high_loop-loop-part l = have_high_loop (expressions (map expression_view (drop l.part-index l.list))) ≡ have_high_loop (expressions (map expression_view l.list))
