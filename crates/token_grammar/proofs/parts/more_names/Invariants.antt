use Rattle.std.proofs.Common.{◌≡◌, length, ◌-◌}
use Rattle.token_grammar.specs.PartReaders.{more_names_at}
use Rattle.token_grammar.proofs.parts.more_names.Given as goal

abbrev pub invariant-loop-k : goal.invariant-loop-k
invariant-loop-k l = more_names_at l.names (l._k-end - l._k) l.rest ≡ more_names_at l.fn.prefix (length l.fn.tokens) l.fn.tokens
