use Rattle.std.proofs.Common.{length}
use Rattle.persistent_sequence.proofs.nodes.Sequence.+splice.Given as goal

abbrev pub decreases-splice : goal.decreases-splice
decreases-splice g l = length l.self.now
