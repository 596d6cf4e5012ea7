use Rattle.std.proofs.Common.{◌≡◌, ◌+◌, ◌^◌}
use Rattle.term_sets.proofs.subsets.all_bits.Given as goal

abbrev pub invariant-loop : goal.invariant-loop
invariant-loop l = l.word + 1 ≡ 2 ^ l.counter
