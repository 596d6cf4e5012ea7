use Rattle.std.proofs.Common.{◌≡◌, ℕ, length}
use Rattle.chart_links.specs.Rows.{RowHas}
use Rattle.refinement_rules.proofs.Walked.{IsWalked}
use Rattle.refinement_rules.specs.Judging.{DeclNumber}
use Rattle.refinement_rules.proofs.taking.refining_rows.Given as goal

abbrev pub invariant-loop-decl : goal.invariant-loop-decl
invariant-loop-decl l = record {
  len : length l.rows.items ≡ length l.refined;
  grown : IsWalked (DeclNumber l.tables.names l.tables.expanded.items l.refined) (λ (p : ℕ × ℕ). ⊥) (λ (p : ℕ × ℕ). RowHas l.rows.items p.0 p.1) l.decls l.decl-index;
}
