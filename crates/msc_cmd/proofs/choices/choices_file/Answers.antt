use Rattle.std.proofs.Common.{false, rules, subst, IfOk}
use Rattle.msc_cmd.specs.declared.document.Document.TheVariants.{Charts}
use Rattle.msc_cmd.specs.declared.opening.Opened.TheVariants.{Told}
use Rattle.msc_meaning.specs.Views.{table_view}
use Rattle.msc_cmd.specs.Intakes.{IsDocumentOf}
use Rattle.msc_cmd.specs.Openings.{IsOpened}
use Rattle.msc_cmd.specs.Outcomes.{ChoicesAnswer, IsTheOne}
use Rattle.msc_cmd.proofs.Replies.{told_outcome, charts_told}
use Rattle.msc_cmd.proofs.choices.choices_file.Goals as goal

pub returns-in-Accepted-clause-outcome : goal.returns-in-Accepted-clause-outcome
returns-in-Accepted-clause-outcome g c =
    let h : IsDocumentOf (g.S.Shelf.files c.args.shelf.now) c.args.document.now (Charts c.in-Accepted.accepted) = search rules in
    let told = subst (λ n. IfOk c.list_choices.result (λ x. IsTheOne (ChoicesAnswer n (table_view c.in-Accepted.accepted)) x.status x.text)) c.bytes.ensures c.list_choices.ensures.outcome in
    charts_told false _ _ h.bytes (ChoicesAnswer c.args.name.now) (table_view c.in-Accepted.accepted) _ h.held h.is told

pub returns-in-Told-clause-outcome : goal.returns-in-Told-clause-outcome
returns-in-Told-clause-outcome g c =
    let h : IsOpened false (g.S.Shelf.files c.args.shelf.now) (g.S.Shelf.faults c.args.shelf.now) (g.S.Shelf.faults c.open_document.new.shelf) (g.S.Shelf.broken c.open_document.new.shelf) (g.S.Shelf.last c.open_document.new.shelf) c.args.document.now (Told c.in-Told.reply) = search rules in
    told_outcome false _ _ _ _ _ c.args.document.now c.in-Told.reply (λ f. ChoicesAnswer c.args.name.now) h
