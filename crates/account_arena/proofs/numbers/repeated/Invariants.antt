use Rattle.std.proofs.Common.{◌≡◌, replicate}
use Rattle.account_arena.proofs.numbers.repeated.Given as goal

abbrev pub invariant-loop-index : goal.invariant-loop-index
invariant-loop-index l = l.numbers.items ≡ replicate l._index l.number
