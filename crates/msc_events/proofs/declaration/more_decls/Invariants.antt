use Rattle.std.proofs.Common.{◌≡◌, length, ◌-◌}
use Rattle.msc_events.specs.DeclarationReaders.{more_decls_at}
use Rattle.msc_events.proofs.declaration.more_decls.Given as goal

abbrev pub invariant-loop-k : goal.invariant-loop-k
invariant-loop-k l = more_decls_at l.decls (l._k-end - l._k) l.rest ≡ more_decls_at l.fn.prefix (length l.fn.tokens) l.fn.tokens
