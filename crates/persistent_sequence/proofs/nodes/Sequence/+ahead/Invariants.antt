use Rattle.std.proofs.Common.{length}
use Rattle.persistent_sequence.proofs.nodes.Sequence.+ahead.Given as goal

abbrev pub decreases-ahead : goal.decreases-ahead
decreases-ahead g l = length l.self.now
