use Rattle.std.proofs.Common.{ℕ, ◌<◌, ◌≤◌, ◌^◌, take}
use Rattle.column_order.specs.Counts.{EdgeLeads}
use Rattle.expansion_order.proofs.ordering.above_to.Given as goal

abbrev pub invariant-loop-edge : goal.invariant-loop-edge
invariant-loop-edge l = record { least : l.fn.least ≤ l.number; most : l.number ≤ 2 ^ 32; above : (y x : ℕ) → EdgeLeads (take l.edge-index l.edges) y x → x < l.number }
