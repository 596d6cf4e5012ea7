use Rattle.std.proofs.Common.{◌≡◌, ◌++◌, drop}
use Rattle.level_pieces.proofs.references.copied_joins.Given as goal

abbrev pub invariant-loop-join : goal.invariant-loop-join
invariant-loop-join l = l.copied ++ drop l.join-index l.joins ≡ l.joins
