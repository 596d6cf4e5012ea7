use Rattle.std.proofs.Common.{◌∙◌, ap}
use Rattle.msc_print.specs.ChartWords.{canonical_text}
use Rattle.msc_print.proofs.laws.prints_stay.Goals as goal

pub returns : goal.returns
returns c = λ m n tokens others d e h texts k.
    let back = c.documents_read_back.ensures n tokens others d h texts in
    ap canonical_text (c.documents_are_exact.ensures.one m n others e back.value k back.reads) ∙ c.places_are_not_printed.ensures.same back.value d back.same
