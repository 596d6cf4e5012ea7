use Rattle.std.proofs.Common.{◌≡◌, ◌++◌}
use Rattle.chart_choices.proofs.listing.listed.Given as goal

abbrev pub invariant-loop-choice : goal.invariant-loop-choice
invariant-loop-choice l = l.list ++ l.choice-iterator.rest.items ≡ l.fn.choices.items
