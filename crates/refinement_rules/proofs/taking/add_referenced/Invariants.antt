use Rattle.refinement_rules.specs.Walks.{HasBit}
use Rattle.std.specs.Borrow.{Bor}
use Rattle.std.specs.Prelude.{List, ℕ}
use Rattle.chart_links.specs.Sets.{HasExpanded}
use Rattle.refinement_rules.proofs.Walked.{IsWalked}
use Rattle.refinement_rules.proofs.taking.add_referenced.Given as goal

abbrev pub invariant-loop-name : goal.invariant-loop-name
invariant-loop-name l = IsWalked (λ (n : Bor (List ℕ)). HasExpanded l.tables.names l.tables.expanded.items n.now) (HasBit l.initial.set) (HasBit l.set) l.names l.name-index
