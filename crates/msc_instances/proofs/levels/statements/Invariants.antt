use Rattle.std.proofs.Common.{◌≡◌, ◌++◌, drop, map}
use Rattle.msc_instances.specs.Parts.{statements_parts}
use Rattle.msc_tree.specs.Statements.{statements}
use Rattle.msc_tree.specs.Views.{statement_view}
use Rattle.msc_instances.proofs.levels.statements.Given as goal

abbrev pub invariant-loop-held : goal.invariant-loop-held
invariant-loop-held l =
    l.level ++ statements_parts (statements (map statement_view (drop l.held-index l.list)))
    ≡ l.initial.level ++ statements_parts (statements (map statement_view l.list))
