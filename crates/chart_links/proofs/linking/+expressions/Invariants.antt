use Rattle.std.proofs.Common.{◌≡◌, ◌++◌, drop, map}
use Rattle.chart_links.specs.Links.{parts_links}
use Rattle.chart_text.specs.PassageViews.{scope_view}
use Rattle.msc_tree.specs.Expressions.{expressions}
use Rattle.msc_tree.specs.Views.{expression_view}
use Rattle.chart_links.proofs.linking.+expressions.Given as goal

abbrev pub invariant-parts-loop-part : goal.invariant-parts-loop-part
invariant-parts-loop-part l =
    l.links ++ parts_links l.place (scope_view l.scope) l.depth (expressions (map expression_view (drop l.part-index l.list)))
    ≡ l.initial.links ++ parts_links l.place (scope_view l.scope) l.depth (expressions (map expression_view l.list))
