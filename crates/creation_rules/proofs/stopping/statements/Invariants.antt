use Rattle.std.proofs.Common.{◌≡◌, ◌++◌, [], drop, map}
use Rattle.chart_text.specs.PassageViews.{scope_view}
use Rattle.creation_rules.specs.Stopping.{statements_behind}
use Rattle.msc_tree.specs.Statements.{statements}
use Rattle.msc_tree.specs.Views.{statement_view}
use Rattle.creation_rules.proofs.stopping.statements.Given as goal

abbrev pub invariant-loop-held : goal.invariant-loop-held
invariant-loop-held l =
    l.places ++ statements_behind l.stopped (scope_view l.scope) (statements (map statement_view (drop l.held-index l.list)))
    ≡ l.initial.places ++ statements_behind [] (scope_view l.scope) (statements (map statement_view l.list))
