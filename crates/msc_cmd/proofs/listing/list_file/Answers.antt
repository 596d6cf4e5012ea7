use Rattle.std.proofs.Common.{rules}
use Rattle.msc_cmd.specs.declared.document.Document.TheVariants.{Charts}
use Rattle.msc_cmd.specs.declared.opening.Opened.TheVariants.{Told}
use Rattle.msc_meaning.specs.Views.{table_view}
use Rattle.msc_cmd.specs.Intakes.{IsDocumentOf}
use Rattle.msc_cmd.specs.Openings.{IsOpened}
use Rattle.msc_cmd.specs.Outcomes.{ListAnswer}
use Rattle.msc_cmd.proofs.Replies.{told_outcome, charts_told}
use Rattle.msc_cmd.proofs.listing.list_file.Goals as goal

pub returns-in-Accepted-clause-outcome : goal.returns-in-Accepted-clause-outcome
returns-in-Accepted-clause-outcome g c =
    let h : IsDocumentOf (g.S.Shelf.files c.args.shelf.now) c.args.document.now (Charts c.in-Accepted.accepted) = search rules in
    charts_told c.args.json _ _ h.bytes (ListAnswer c.args.json c.args.chart.now) (table_view c.in-Accepted.accepted) _ h.held h.is c.list_accepted.ensures.outcome

pub returns-in-Told-clause-outcome : goal.returns-in-Told-clause-outcome
returns-in-Told-clause-outcome g c =
    let h : IsOpened c.args.json (g.S.Shelf.files c.args.shelf.now) (g.S.Shelf.faults c.args.shelf.now) (g.S.Shelf.faults c.open_document.new.shelf) (g.S.Shelf.broken c.open_document.new.shelf) (g.S.Shelf.last c.open_document.new.shelf) c.args.document.now (Told c.in-Told.reply) = search rules in
    told_outcome c.args.json _ _ _ _ _ c.args.document.now c.in-Told.reply (λ f. ListAnswer c.args.json c.args.chart.now) h
