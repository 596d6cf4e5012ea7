use Rattle.std.proofs.Common.{take}
use Rattle.chart_term.specs.Facts.{RowHasFacts}
use Rattle.chart_term.specs.Rows.{parts_of}
use Rattle.chart_term.specs.Terms.{row_of}
use Rattle.chart_term.proofs.term.parts.facts_of.Given as goal

abbrev pub invariant-loop-part : goal.invariant-loop-part
invariant-loop-part l = RowHasFacts (row_of (parts_of (take l.part-index l.parts))) l.facts
