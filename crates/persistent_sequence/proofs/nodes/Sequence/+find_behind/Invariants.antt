use Rattle.std.proofs.Common.{length}
use Rattle.persistent_sequence.proofs.nodes.Sequence.+find_behind.Given as goal

abbrev pub decreases-find_behind : goal.decreases-find_behind
decreases-find_behind g l = length l.self.now
