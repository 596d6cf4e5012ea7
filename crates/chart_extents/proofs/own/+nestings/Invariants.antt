use Rattle.std.proofs.Common.{◌≡◌, max, drop, map}
use Rattle.chart_extents.specs.OwnExtents.{parts_nesting}
use Rattle.msc_tree.specs.Expressions.{expressions}
use Rattle.msc_tree.specs.Views.{expression_view}
use Rattle.chart_extents.proofs.own.+nestings.Given as goal

abbrev pub invariant-parts_nesting-loop-part : goal.invariant-parts_nesting-loop-part
invariant-parts_nesting-loop-part l = max l.most (parts_nesting (expressions (map expression_view (drop l.part-index l.list)))) ≡ parts_nesting (expressions (map expression_view l.list))
