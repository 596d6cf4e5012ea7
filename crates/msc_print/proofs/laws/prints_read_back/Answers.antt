use Rattle.std.proofs.Common.{◌≡◌, ◌∙◌, sym, ap, subst}
use Rattle.msc_tokens.proofs.Unique.{one_spelling}
use Rattle.msc_tree.specs.Charts.{Document}
use Rattle.token_grammar.specs.Languages.{texts}
use Rattle.msc_print.specs.ChartWords.{canonical_text, document_words}
use Rattle.msc_print.specs.Unplaced.{SameAside}
use Rattle.msc_print.proofs.laws.prints_read_back.Goals as goal

pub returns-clause-reads : goal.returns-clause-reads
returns-clause-reads c = λ n bytes tokens d spells reads.
    let cut = c.layout_keeps_tokens_apart.ensures (document_words d) (c.printed_texts_are_texts.ensures n bytes tokens d spells reads) in
    let back = c.documents_read_back.ensures n tokens cut.tokens d reads cut.texts_are in
    record { tokens = cut.tokens; spells = cut.spells; reads_as = back; printed_again = c.places_are_not_printed.ensures.same back.value d back.same }

pub returns-clause-only : goal.returns-clause-only
returns-clause-only c = λ m n bytes tokens others d e spells reads spelled read.
    let cut = c.layout_keeps_tokens_apart.ensures (document_words d) (c.printed_texts_are_texts.ensures n bytes tokens d spells reads) in
    let same_tokens : others ≡ cut.tokens = one_spelling (canonical_text d) others cut.tokens spelled cut.spells in
    let back = c.documents_read_back.ensures n tokens others d reads (ap texts same_tokens ∙ cut.texts_are) in
    let value : e ≡ back.value = c.documents_are_exact.ensures.one m n others e back.value read back.reads in
    let aside : SameAside e d = subst (λ (z : Document). SameAside z d) (sym value) back.same in
    (aside, c.places_are_not_printed.ensures.same e d aside)
