use Rattle.std.proofs.Common.{◌∙◌, ap, subst, List, ℕ, IfOk}
use Rattle.msc_tokens.specs.Places.{first_place, past}
use Rattle.msc_cmd.specs.DocumentTexts.{IsTheText}
use Rattle.msc_cmd.proofs.TextFaults.{settled_long, settled_text}
use Rattle.msc_cmd.proofs.document_text.text_of.Goals as goal

pub returns-then-intake-gt-DOCUMENT_BYTES : goal.returns-then-intake-gt-DOCUMENT_BYTES
returns-then-intake-gt-DOCUMENT_BYTES c = λ prefix bytes h f. settled_long prefix bytes c.args.intake c.end_of.result c.if-intake-gt-DOCUMENT_BYTES.true (c.end_of.ensures ∙ ap (past first_place) c.as_slice.ensures.value) h f

pub returns : goal.returns
returns c =
    λ prefix bytes h f. settled_text prefix bytes c.args.intake c.read_text.result c.if-intake-gt-DOCUMENT_BYTES.false (subst (λ (bs : List ℕ). IfOk c.read_text.result (IsTheText bs)) c.as_slice-2.ensures.value c.read_text.ensures) h f
