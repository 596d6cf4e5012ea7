use Rattle.std.proofs.Common.{◌≡◌, length, ◌-◌}
use Rattle.token_grammar.specs.PartReaders.{more_items_at}
use Rattle.token_grammar.proofs.messages.more_items.Given as goal

abbrev pub invariant-loop-k : goal.invariant-loop-k
invariant-loop-k l = more_items_at l.items (l._k-end - l._k) l.rest ≡ more_items_at l.fn.prefix (length l.fn.tokens) l.fn.tokens
