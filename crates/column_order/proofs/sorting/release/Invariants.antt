use Rattle.std.proofs.Common.{◌≡◌, ℕ, ◌<◌, ◌≤◌, ◌+◌, ◌↔◌, ◌⊎◌, length, get_or, IsTrue, drop}
use Rattle.std.specs.Ordering.{nat_cmp}
use Rattle.std.specs.BTreeSet.{contains}
use Rattle.column_order.specs.Counts.{times}
use Rattle.column_order.proofs.sorting.release.Given as goal

abbrev pub invariant-loop-target : goal.invariant-loop-target
invariant-loop-target l = record {
  len : length l.counts ≡ length l.initial.counts;
  enough : (x : ℕ) → times x (drop l.target-index l.targets) ≤ get_or l.counts x 0;
  counts : (x : ℕ) → get_or l.counts x 0 + times x l.targets ≡ get_or l.initial.counts x 0 + times x (drop l.target-index l.targets);
  ready : (x : ℕ) → IsTrue (contains nat_cmp l.ready x) ↔ (IsTrue (contains nat_cmp l.initial.ready x) ⊎ ((0 < get_or l.initial.counts x 0) × (get_or l.counts x 0 ≡ 0)));
}
