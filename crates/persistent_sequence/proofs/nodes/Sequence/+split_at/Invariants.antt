use Rattle.std.proofs.Common.{length}
use Rattle.persistent_sequence.proofs.nodes.Sequence.+split_at.Given as goal

abbrev pub decreases-split_at : goal.decreases-split_at
decreases-split_at g l = length l.self.now
