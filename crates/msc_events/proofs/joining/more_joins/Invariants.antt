use Rattle.std.proofs.Common.{◌≡◌, length, ◌-◌}
use Rattle.msc_events.specs.MultiReaders.{more_joins_at}
use Rattle.msc_events.proofs.joining.more_joins.Given as goal

abbrev pub invariant-loop-k : goal.invariant-loop-k
invariant-loop-k l = more_joins_at l.joins (l._k-end - l._k) l.rest ≡ more_joins_at l.fn.prefix (length l.fn.tokens) l.fn.tokens
