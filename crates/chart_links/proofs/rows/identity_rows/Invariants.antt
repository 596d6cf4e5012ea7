use Rattle.chart_links.specs.Rows.{IsIdentity}
use Rattle.chart_links.proofs.rows.identity_rows.Given as goal

abbrev pub invariant-loop-number : goal.invariant-loop-number
invariant-loop-number l = IsIdentity l.number l.rows.items
