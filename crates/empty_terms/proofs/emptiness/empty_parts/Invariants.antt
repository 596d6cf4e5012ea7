use Rattle.std.proofs.Common.{◌≡◌, ◌≤◌, length}
use Rattle.chart_term.specs.Tables.{terms_over}
use Rattle.empty_terms.specs.Answers.{AreToldFrom, AreWalksTold}
use Rattle.empty_terms.proofs.emptiness.empty_parts.Given as goal

abbrev pub invariant-loop-net : goal.invariant-loop-net
invariant-loop-net l = record {
  within : l.end ≤ length l.outline.terms;
  count : length l.answers.items ≡ length l.outline.terms;
  walks : length l.walks.items ≡ l.net;
  told : AreToldFrom (terms_over l.nets.tables) l.outline.terms l.answers.items l.end;
  known : AreWalksTold (terms_over l.nets.tables) l.walks.items;
}
