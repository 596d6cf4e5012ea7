use Rattle.std.proofs.Common.{◌≡◌, refl, rules}
use Rattle.msc_tree.specs.Views.{document_view}
use Rattle.msc_print.specs.ChartWords.{canonical_text}
use Rattle.msc_cmd.specs.declared.document_text.DocumentText.TheVariants.{Read, Refused}
use Rattle.msc_cmd.specs.Intakes.{IsTextOf}
use Rattle.msc_cmd.proofs.Replies.{four_small, four_not_two, four_read}
use Rattle.msc_cmd.proofs.Prints.{unread_told, printed_told}
use Rattle.msc_cmd.proofs.printing.print_file.Goals as goal

pub returns-in_ok-text-in-Read-clause-outcome : goal.returns-in_ok-text-in-Read-clause-outcome
returns-in_ok-text-in-Read-clause-outcome g c =
    let h : IsTextOf (g.S.Shelf.files c.args.shelf.now) c.args.document.now (Read c.in-Read.document) = search rules in
    let text : c.in_ok-text-in-Read.text ≡ canonical_text (document_view c.in-Read.document) = search rules in
    printed_told _ _ h.bytes _ _ h.held h.is refl text

pub returns-in-Refused-clause-outcome : goal.returns-in-Refused-clause-outcome
returns-in-Refused-clause-outcome g c =
    let h : IsTextOf (g.S.Shelf.files c.args.shelf.now) c.args.document.now (Refused c.in-Refused.rule c.in-Refused.place) = search rules in
    unread_told _ _ h.bytes _ _ _ h.held h.is c.make_reply-in-Refused.ensures.status c.make_reply-in-Refused.ensures.text

pub returns-in-Refused-clause-small : goal.returns-in-Refused-clause-small
returns-in-Refused-clause-small g c = four_small _ c.make_reply-in-Refused.ensures.status

pub returns-in-Refused-clause-not_two : goal.returns-in-Refused-clause-not_two
returns-in-Refused-clause-not_two g c = four_not_two _ c.make_reply-in-Refused.ensures.status

pub returns-in-Refused-clause-failed : goal.returns-in-Refused-clause-failed
returns-in-Refused-clause-failed g c = four_read _ _ c.make_reply-in-Refused.ensures.status
