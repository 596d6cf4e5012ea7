use Rattle.std.proofs.Common.{IsTrue, rules, sym, subst}
use Rattle.chart_term.specs.Tables.{terms_over, node_of}
use Rattle.empty_terms.specs.Outlines.{IsAt}
use Rattle.std.proofs.Common.{ℕ}
use Rattle.certificate_texts.specs.Texts.{line_of}
use Rattle.certificate_checking.specs.Tasks.{IsStepBy}
use Rattle.certificate_texts.specs.declared.line.CertificateLine.{CertificateLine}
use Rattle.certificate_checking.specs.declared.step.Task.TheVariants as task
use Rattle.certificate_checking.proofs.Stops.{node_there}
use Rattle.certificate_checking.proofs.step.stop_step.Goals as goal

pub returns-else-not-is_behind : goal.returns-else-not-is_behind
returns-else-not-is_behind c =
    let w = c.args.nets.now.tables in
    let (x, h) = c.requires in
    let t : IsTrue c.is_behind.result = search rules in
    subst (λ (l : CertificateLine). IsStepBy (terms_over w) c.args.outline.now.terms (task.Stops c.args.stops.net c.args.stops.from c.args.stops.count) (line_of l) c.step_to.result) (sym c.in-Node.is)
    (c.step_to.ensures c.args.outline.now.terms (c.is_behind.ensures.is.0 t)
    (subst (λ (n : ℕ). IsAt c.args.outline.now.terms n (node_of w c.args.stops.net c.in-Node.node)) (sym c.part_of-part.ensures)
    (node_there w x c.args.outline.now h c.args.stops.net c.in-Node.node c.root.result (c.is_behind.ensures.net t) c.root.ensures (c.is_behind.ensures.node t))))
