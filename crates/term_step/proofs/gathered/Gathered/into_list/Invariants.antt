use Rattle.std.proofs.Common.{◌≡◌, ◌++◌}
use Rattle.term_step.proofs.gathered.Gathered.into_list.Given as goal

abbrev pub invariant-loop-term : goal.invariant-loop-term
invariant-loop-term l = l.list ++ l.term-iterator ≡ l.fn.self
