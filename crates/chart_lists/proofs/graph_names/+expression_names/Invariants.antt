use Rattle.std.proofs.Common.{◌≡◌, ◌++◌, drop, map}
use Rattle.gate_ends.specs.NameViews.{names_view}
use Rattle.msc_meaning.specs.InnerEvents.{charts_in_all}
use Rattle.msc_tree.specs.Expressions.{expressions}
use Rattle.msc_tree.specs.Views.{expression_view}
use Rattle.chart_lists.proofs.graph_names.+expression_names.Given as goal

abbrev pub invariant-add_expressions-loop-part : goal.invariant-add_expressions-loop-part
invariant-add_expressions-loop-part l =
    names_view l.names.items ++ charts_in_all (expressions (map expression_view (drop l.part-index l.parts))) ≡ names_view l.initial.names.items ++ charts_in_all (expressions (map expression_view l.parts))
