use Rattle.std.proofs.Common.{◌≡◌, ◌-◌}
use Rattle.msc_events.specs.EventReaders.{more_singles_at, singles_at}
use Rattle.msc_events.proofs.events.singles.Given as goal

abbrev pub invariant-loop-k : goal.invariant-loop-k
invariant-loop-k l = more_singles_at l.events (l._k-end - l._k) l.rest ≡ singles_at l.fn.tokens
