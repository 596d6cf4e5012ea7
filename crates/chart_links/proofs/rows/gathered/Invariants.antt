use Rattle.std.proofs.Common.{◌≡◌, ◌↔◌, ℕ, true}
use Rattle.bit_sets.specs.Blocks.{has_bit}
use Rattle.chart_links.proofs.RowFacts.{IsGatheredBelow}
use Rattle.chart_links.proofs.rows.gathered.Given as goal

abbrev pub invariant-loop-middle : goal.invariant-loop-middle
invariant-loop-middle l = (n : ℕ) → (has_bit l.row n ≡ true) ↔ IsGatheredBelow l.middle l.first l.sets n
