use Rattle.std.proofs.Common.{List, ℕ, Some, subst}
use Rattle.std.proofs.lemmas.Bool.Decides.{Decides-eqb}
use Rattle.std.proofs.lemmas.Slice.Eq.{strip_prefix_is}
use Rattle.certificate_texts.proofs.LineReading.{IsNumbered, NotNumbered, not_prefixed, prefixed}
use Rattle.certificate_texts.proofs.line_reading.numbered.Goals as goal

pub returns-in-None : goal.returns-in-None
returns-in-None c =
    subst (λ (w : List ℕ). NotNumbered c.args.text.now w) c.as_bytes.ensures.value (not_prefixed c.args.text.now c.as_bytes.result.now c.in-None.ensures.cases)

pub returns-in-Some : goal.returns-in-Some
returns-in-Some c =
    let word = c.as_bytes.result.now in
    let text = c.args.text.now in
    let split = strip_prefix_is Decides-eqb text word (Some c.in-Some.digits) c.in-Some.ensures.cases in
    subst (λ (w : List ℕ). IsNumbered text w c.number_of.result) c.as_bytes.ensures.value (prefixed text word c.in-Some.digits.now c.number_of.result split c.number_of.ensures)
