use Rattle.std.proofs.Common.{◌∙◌, ◌+◌, ◌∷◌, ℕ, List, ap, sym, length, take}
use Rattle.certificate_texts.proofs.Cutting.{cut_alone, cut_first, rest_taken}
use Rattle.certificate_texts.proofs.reading.cut_line.Goals as goal

pub returns-in-Some-clause-lines : goal.returns-in-Some-clause-lines
returns-in-Some-clause-lines c =
    let text = c.args.text.now in
    cut_first text c.in-Some.end c.in-Some.ensures.0 c.in-Some.ensures.1 c.in-Some.ensures.2
    ∙ ap (λ (ls : List (List ℕ)). take c.in-Some.end text ∷ ls) (sym (rest_taken text (c.in-Some.end + 1)))

pub returns-in-None-clause-lines : goal.returns-in-None-clause-lines
returns-in-None-clause-lines c =
    let text = c.args.text.now in
    cut_alone text c.in-None.ensures c.requires ∙ ap (λ (ls : List (List ℕ)). text ∷ ls) (sym (rest_taken text (length text)))
