use Rattle.std.proofs.Common.{length, ◌+◌}
use Rattle.persistent_sequence.proofs.nodes.Sequence.+concat_full.Given as goal

abbrev pub decreases-concat_full : goal.decreases-concat_full
decreases-concat_full g l = length l.first.now + length l.second.now
