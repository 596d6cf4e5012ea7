use Rattle.std.proofs.Common.{◌≡◌, ◌∙◌, refl, rules, sym}
use Rattle.std.proofs.lemmas.List.{length-map}
use Rattle.msc_meaning.specs.Views.{entry_view, table_view}
use Rattle.judge_report.specs.Texts.{accepted_line}
use Rattle.msc_cmd.specs.declared.document.Document.TheVariants.{Charts}
use Rattle.msc_cmd.specs.declared.opening.Opened.TheVariants.{Told}
use Rattle.msc_cmd.specs.Intakes.{IsDocumentOf}
use Rattle.msc_cmd.specs.Openings.{IsOpened}
use Rattle.msc_cmd.specs.Outcomes.{CheckAnswer}
use Rattle.msc_cmd.proofs.Replies.{told_outcome, checked_told}
use Rattle.msc_cmd.proofs.checking.check_file.Goals as goal

pub returns-in_ok-text-in-Accepted-clause-outcome : goal.returns-in_ok-text-in-Accepted-clause-outcome
returns-in_ok-text-in-Accepted-clause-outcome g c =
    let h : IsDocumentOf (g.S.Shelf.files c.args.shelf.now) c.args.document.now (Charts c.in-Accepted.accepted) = search rules in
    let text : c.in_ok-text-in-Accepted.text ≡ accepted_line c.args.json c.charts.result = search rules in
    checked_told c.args.json _ _ h.bytes (table_view c.in-Accepted.accepted) c.charts.result _ h.held h.is refl (c.charts.ensures.count ∙ sym (length-map c.in-Accepted.accepted entry_view)) text

pub returns-in-Told-clause-outcome : goal.returns-in-Told-clause-outcome
returns-in-Told-clause-outcome g c =
    let h : IsOpened c.args.json (g.S.Shelf.files c.args.shelf.now) (g.S.Shelf.faults c.args.shelf.now) (g.S.Shelf.faults c.open_document.new.shelf) (g.S.Shelf.broken c.open_document.new.shelf) (g.S.Shelf.last c.open_document.new.shelf) c.args.document.now (Told c.in-Told.reply) = search rules in
    told_outcome c.args.json _ _ _ _ _ c.args.document.now c.in-Told.reply (λ f. CheckAnswer c.args.json) h
