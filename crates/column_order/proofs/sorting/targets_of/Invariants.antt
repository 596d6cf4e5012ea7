use Rattle.std.proofs.Common.{◌≡◌, Vec, Global, ℕ, ◌++◌, [], Some, slice_get, drop}
use Rattle.std.specs.Vec.{vec_len}
use Rattle.column_order.specs.Counts.{targets}
use Rattle.column_order.proofs.sorting.targets_of.Given as goal

abbrev pub invariant-loop : goal.invariant-loop
invariant-loop l = record { len : vec_len l.lists ≡ l.counter; none : (x : ℕ) (list : Vec ℕ Global) → slice_get l.lists.items x ≡ Some list → list.items ≡ [] }

abbrev pub invariant-loop-edge : goal.invariant-loop-edge
invariant-loop-edge l = record { len : vec_len l.lists ≡ l.count; targets : (x : ℕ) (list : Vec ℕ Global) → slice_get l.lists.items x ≡ Some list → list.items ++ targets (drop l.edge-index l.edges) x ≡ targets l.edges x }
