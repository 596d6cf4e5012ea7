use Rattle.std.proofs.Common.{length}
use Rattle.persistent_sequence.proofs.nodes.Sequence.+from_vec.Given as goal

abbrev pub decreases-from_vec : goal.decreases-from_vec
decreases-from_vec g l = length l.items.items
