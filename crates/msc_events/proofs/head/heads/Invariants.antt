use Rattle.std.proofs.Common.{◌≡◌, ◌-◌}
use Rattle.msc_events.specs.DeclarationReaders.{more_heads_at, heads_at}
use Rattle.msc_events.proofs.head.heads.Given as goal

abbrev pub invariant-loop-k : goal.invariant-loop-k
invariant-loop-k l = more_heads_at l.declared (l._k-end - l._k) l.rest ≡ heads_at l.fn.tokens
