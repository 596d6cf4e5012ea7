use Rattle.chart_links.specs.Rows.{AreEmpty}
use Rattle.chart_links.proofs.rows.empty_rows.Given as goal

abbrev pub invariant-loop : goal.invariant-loop
invariant-loop l = AreEmpty l.counter l.rows.items
