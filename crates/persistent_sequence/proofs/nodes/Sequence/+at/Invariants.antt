use Rattle.std.proofs.Common.{length}
use Rattle.persistent_sequence.proofs.nodes.Sequence.+at.Given as goal

abbrev pub decreases-at : goal.decreases-at
decreases-at g l = length l.self.now
