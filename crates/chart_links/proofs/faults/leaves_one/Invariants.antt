use Rattle.std.proofs.Common.{drop}
use Rattle.chart_text.specs.PassageViews.{scope_view}
use Rattle.chart_links.specs.Tables.{IsUncoveredIn}
use Rattle.chart_links.proofs.faults.leaves_one.Given as goal

abbrev pub invariant-loop-index : goal.invariant-loop-index
invariant-loop-index l = IsUncoveredIn l.known l.set l.names (scope_view l.scope) → IsUncoveredIn l.known l.set (drop l.index l.names) (scope_view l.scope)
