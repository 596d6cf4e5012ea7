use Rattle.std.proofs.Common.{◌≡◌, ℕ, ◌<◌, ◌≤◌, ◌||◌, ◌&&◌, length}
use Rattle.bit_sets.specs.Blocks.{has_bit}
use Rattle.chart_links.specs.Rows.{row_has}
use Rattle.chart_links.proofs.rows.pass.Given as goal

abbrev pub invariant-loop-number : goal.invariant-loop-number
invariant-loop-number l = record {
  len : length l.rows.items ≡ length l.initial.rows.items;
  done : (u v : ℕ) → u < l.number → row_has l.rows.items u v ≡ (row_has l.initial.rows.items u v || (row_has l.initial.rows.items u l.middle && has_bit l.through v));
  left : (u v : ℕ) → l.number ≤ u → row_has l.rows.items u v ≡ row_has l.initial.rows.items u v;
}
