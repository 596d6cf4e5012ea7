use Rattle.chart_links.proofs.RowFacts.{IsClosing}
use Rattle.chart_links.proofs.rows.close.Given as goal

abbrev pub invariant-loop-middle : goal.invariant-loop-middle
invariant-loop-middle l = IsClosing l.initial.rows.items l.middle l.rows.items
