use Rattle.std.proofs.Common.{sym, subst}
use Rattle.chart_term.specs.Tables.{terms_over}
use Rattle.certificate_texts.specs.Texts.{line_of}
use Rattle.certificate_checking.specs.Tasks.{IsStepBy}
use Rattle.certificate_checking.specs.declared.step.Task.{Task}
use Rattle.certificate_checking.proofs.reading.step_by.Goals as goal

pub term_step-requires : goal.term_step-requires
term_step-requires c = let s = c.requires.sure in record { whole = s.outline.outlined.whole; known = s.outline.outlined.known }

pub stop_step-requires : goal.stop_step-requires
stop_step-requires c = let s = c.requires.sure in (s.term, s.outline)

pub returns-in-Term : goal.returns-in-Term
returns-in-Term c =
    let w = c.args.nets.now.tables in
    subst (λ (t : Task). IsStepBy (terms_over w) c.args.outline.now.terms t (line_of c.args.line) c.term_step.result) (sym c.in-Term.is) (c.term_step.ensures w c.requires.sure)

pub returns-in-Stops : goal.returns-in-Stops
returns-in-Stops c =
    let w = c.args.nets.now.tables in
    subst (λ (t : Task). IsStepBy (terms_over w) c.args.outline.now.terms t (line_of c.args.line) c.stop_step.result) (sym c.in-Stops.is) c.stop_step.ensures
