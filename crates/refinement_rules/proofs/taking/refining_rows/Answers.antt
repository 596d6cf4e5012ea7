use Rattle.std.proofs.Common.{◌∙◌, ℕ}
use Rattle.chart_links.specs.Rows.{RowHas}
use Rattle.refinement_rules.proofs.Walked.{grown_none, grown_step, grown_whole}
use Rattle.refinement_rules.specs.Judging.{DeclNumber}
use Rattle.refinement_rules.proofs.taking.refining_rows.Goals as goal

pub loop-decl-init : goal.loop-decl-init
loop-decl-init c =
    let t = c.args.tables.now in
    record {
      len = c.in_ok-rows.ensures.len ∙ c.len.ensures;
      grown = grown_none (DeclNumber t.names t.expanded.items c.args.refined.now) (λ (p : ℕ × ℕ). RowHas c.in_ok-rows.rows.items p.0 p.1) c.args.decls.now (λ p h. c.in_ok-rows.ensures.none p.0 p.1 h);
    }

pub loop-decl-preserved : goal.loop-decl-preserved
loop-decl-preserved c =
    let t = c.args.tables.now in
    let at = c.loop-decl in
    record {
      len = c.add_decl.ensures.len ∙ at.invariant.len;
      grown = grown_step (DeclNumber t.names t.expanded.items c.args.refined.now) (λ (p : ℕ × ℕ). ⊥) (λ (p : ℕ × ℕ). RowHas at.rows.items p.0 p.1) (λ (p : ℕ × ℕ). RowHas c.add_decl.new.rows.items p.0 p.1) c.args.decls.now at.decl-index
          c.decl-item.result c.loop-decl-test.true c.decl-item.is c.in_ok-add_decl.ensures.added at.invariant.grown;
    }

pub returns : goal.returns
returns c =
    let t = c.args.tables.now in
    grown_whole (DeclNumber t.names t.expanded.items c.args.refined.now) (λ (p : ℕ × ℕ). ⊥) (λ (p : ℕ × ℕ). RowHas c.loop-decl.rows.items p.0 p.1) c.args.decls.now c.loop-decl.decl-index (λ p h. h) c.loop-decl-test.false
    c.loop-decl.invariant.grown
