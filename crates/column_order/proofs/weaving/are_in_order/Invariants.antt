use Rattle.std.proofs.Common.{◌≡◌, ℕ, get_or, drop}
use Rattle.std.specs.Vec.{vec_len}
use Rattle.column_order.specs.Counts.{targets}
use Rattle.column_order.specs.RisingEntries.{DoRise}
use Rattle.column_order.proofs.weaving.are_in_order.Given as goal

abbrev pub invariant-loop-entry : goal.invariant-loop-entry
invariant-loop-entry l = record {
  len : vec_len l.ends ≡ l.columns;
  rise : (k : ℕ) → DoRise (get_or l.ends.items k 0) (targets (drop l.entry-index l.entries) k) → DoRise 0 (targets l.entries k);
}
