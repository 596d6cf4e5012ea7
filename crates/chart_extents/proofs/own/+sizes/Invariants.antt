use Rattle.std.proofs.Common.{◌≡◌, ◌+◌, drop, map}
use Rattle.chart_extents.specs.OwnExtents.{parts_size}
use Rattle.msc_tree.specs.Expressions.{expressions}
use Rattle.msc_tree.specs.Views.{expression_view}
use Rattle.chart_extents.proofs.own.+sizes.Given as goal

abbrev pub invariant-parts_size-loop-part : goal.invariant-parts_size-loop-part
invariant-parts_size-loop-part l = l.total + parts_size (expressions (map expression_view (drop l.part-index l.list))) ≡ parts_size (expressions (map expression_view l.list))
