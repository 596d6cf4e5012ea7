use Rattle.std.proofs.Common.{◌≡◌}
use Rattle.shared_parts.proofs.Pairs.{IsCompared}
use Rattle.shared_parts.proofs.sharing.same_names.Given as goal

abbrev pub invariant-loop-index : goal.invariant-loop-index
invariant-loop-index l = IsCompared (λ x y. x ≡ y) l.a l.b l.index
