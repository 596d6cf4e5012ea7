use Rattle.std.proofs.Common.{◌≤◌}
use Rattle.chart_term.specs.PartLists.{ArePassed}
use Rattle.chart_term.specs.Rows.{parts_of}
use Rattle.chart_term.proofs.term.search.next_of.Given as goal

abbrev pub invariant-loop-at : goal.invariant-loop-at
invariant-loop-at l = record {
  behind : l.from ≤ l.at;
  passed : ArePassed l.label l.skip.instances (parts_of l.parts) l.from l.at;
}
