use Rattle.std.proofs.Common.{ℕ}
use Rattle.chart_links.specs.Rows.{RowHas}
use Rattle.chart_links.specs.Sets.{HasExpanded}
use Rattle.chart_links.specs.Tables.{IsNumber}
use Rattle.refinement_rules.proofs.SetSteps.{refining_holds, refining_lacks}
use Rattle.refinement_rules.proofs.taking.add_decl.Goals as goal

pub returns-in-Some-clause-added : goal.returns-in-Some-clause-added
returns-in-Some-clause-added c =
    let t = c.args.tables.now in
    let d = c.args.decl.now in
    refining_holds c.add_refining.result (λ (p : ℕ × ℕ). RowHas c.args.rows.now.items p.0 p.1) (λ (p : ℕ × ℕ). RowHas c.add_refining.new.rows.items p.0 p.1)
    (λ chart (p : ℕ × ℕ). IsNumber c.args.refined.now d.name p.0 × HasExpanded t.names t.expanded.items chart p.1) d.refined c.in-Some.chart c.in-Some.is c.add_refining.ensures.added

pub returns-in-None-clause-added : goal.returns-in-None-clause-added
returns-in-None-clause-added c =
    let t = c.args.tables.now in
    let d = c.args.decl.now in
    refining_lacks (λ (p : ℕ × ℕ). RowHas c.args.rows.now.items p.0 p.1) (λ chart (p : ℕ × ℕ). IsNumber c.args.refined.now d.name p.0 × HasExpanded t.names t.expanded.items chart p.1) d.refined c.in-None.is
