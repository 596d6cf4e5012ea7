use Rattle.std.proofs.Common.{◌≡◌, ℕ, ◌<◌, get_or}
use Rattle.column_order.proofs.sorting.first_waiting.Given as goal

abbrev pub invariant-loop-count : goal.invariant-loop-count
invariant-loop-count l = record { is : l.item ≡ l.count-index; none : (y : ℕ) → y < l.count-index → get_or l.counts y 0 ≡ 0 }
