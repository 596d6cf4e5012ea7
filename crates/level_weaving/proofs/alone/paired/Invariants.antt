use Rattle.std.proofs.Common.{◌≡◌, ◌⊎◌, ◌↔◌, ℕ, drop, get_or, length, true, false}
use Rattle.level_weaving.specs.Alone.{HasEnd}
use Rattle.level_weaving.proofs.alone.paired.Given as goal

abbrev pub invariant-loop-pair : goal.invariant-loop-pair
invariant-loop-pair l = record {
  each : length l.told.items ≡ l.count;
  are : (p : ℕ) → ((get_or l.told.items p false ≡ true) ⊎ HasEnd (drop l.pair-index l.pairs) p) ↔ HasEnd l.pairs p;
}
