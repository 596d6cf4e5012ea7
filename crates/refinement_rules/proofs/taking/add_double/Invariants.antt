use Rattle.std.proofs.Common.{◌↔◌, ◌⊎◌, ℕ}
use Rattle.refinement_rules.specs.Walks.{HasBit}
use Rattle.refinement_rules.proofs.TakenFacts.{OneBelow, TwiceBelow}
use Rattle.refinement_rules.proofs.taking.add_double.Given as goal

abbrev pub invariant-loop-row : goal.invariant-loop-row
invariant-loop-row l = record {
  once : (n : ℕ) → HasBit l.once n ↔ OneBelow l.rows l.row-index n;
  twice : (n : ℕ) → HasBit l.set n ↔ (HasBit l.initial.set n ⊎ TwiceBelow l.rows l.row-index n);
}
