use Rattle.std.proofs.Common.{◌≡◌, ◌≤◌, length}
use Rattle.chart_term.specs.Tables.{Tables, terms_over}
use Rattle.empty_terms.specs.Answers.{AreToldFrom, AreWalksTold}
use Rattle.empty_terms.proofs.emptiness.tell.Given as goal

abbrev pub invariant-loop-number : goal.invariant-loop-number
invariant-loop-number l = record {
  within : l.number ≤ l.to;
  count : length l.answers.items ≡ length l.fn.answers.items;
  told : (w : Tables) → AreWalksTold (terms_over w) l.walks → AreToldFrom (terms_over w) l.outline.terms l.fn.answers.items l.to → AreToldFrom (terms_over w) l.outline.terms l.answers.items l.number;
}

abbrev pub decreases-loop-number : goal.decreases-loop-number
decreases-loop-number l = l.number
