use Rattle.shared_parts.proofs.Pairs.{IsAlikeJoin, IsCompared}
use Rattle.shared_parts.proofs.joins.same_joins.Given as goal

abbrev pub invariant-loop-index : goal.invariant-loop-index
invariant-loop-index l = IsCompared IsAlikeJoin l.a l.b l.index
