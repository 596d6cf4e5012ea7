use Rattle.std.proofs.Common.{◌≡◌, length, ◌-◌}
use Rattle.msc_expression.specs.GraphReaders.{more_labels_at}
use Rattle.msc_expression.proofs.graphs.more_labels.Given as goal

abbrev pub invariant-loop-k : goal.invariant-loop-k
invariant-loop-k l = more_labels_at l.labels (l._k-end - l._k) l.rest ≡ more_labels_at l.fn.prefix (length l.fn.tokens) l.fn.tokens
