use Rattle.std.proofs.Common.{◌≡◌, ◌≤◌, ℕ, Some, drop, length, slice_get}
use Rattle.log_ways.proofs.log_way.way_back.Given as goal
use Rattle.log_ways.specs.Stepping.{IsBack}
use Rattle.term_sets.specs.Memories.{set_at}

abbrev pub invariant-loop-at : goal.invariant-loop-at
invariant-loop-at l = record {
  within : l.at ≤ length l.numbers;
  back : (s : ℕ) → slice_get l.history.sets.items l.at ≡ Some s → IsBack l.nets.tables l.history.memory.sets (set_at l.history.memory.sets s) (drop l.at l.numbers) l.back;
}

abbrev pub decreases-loop-at : goal.decreases-loop-at
decreases-loop-at l = l.at
