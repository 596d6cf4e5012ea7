use Rattle.std.proofs.Common.{◌≡◌, ℕ, ◌<◌, ◌↔◌, get_or, IsTrue}
use Rattle.std.specs.Ordering.{nat_cmp}
use Rattle.std.specs.BTreeSet.{contains}
use Rattle.column_order.proofs.sorting.ready_of.Given as goal

abbrev pub invariant-loop-count : goal.invariant-loop-count
invariant-loop-count l = record { is : l.item ≡ l.count-index; ready : (x : ℕ) → IsTrue (contains nat_cmp l.ready x) ↔ ((x < l.count-index) × (get_or l.counts x 0 ≡ 0)) }
