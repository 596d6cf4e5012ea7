use Rattle.std.proofs.Common.{◌≤◌, ◌∙◌, ℕ, List, [], None, length, subst, sym}
use Rattle.msc_base.specs.declared.limits.TheConstants.Limits.{DOCUMENT_BYTES}
use Rattle.msc_cmd.specs.DocumentTexts.{IsTheText}
use Rattle.msc_cmd.specs.Samples.{sample_text}
use Rattle.msc_cmd.proofs.Settling.{formed_text}
use Rattle.msc_cmd.proofs.sampling.sample_document.Goals as goal

pub read_text-requires : goal.read_text-requires
read_text-requires c = subst (λ (bs : List ℕ). length bs ≤ DOCUMENT_BYTES) (sym c.as_bytes.ensures.value) c.document_text.ensures.short

pub settle-requires : goal.settle-requires
settle-requires c = formed_text c.documents_are_exact.ensures.formed c.graphs_are_formed.ensures None [] c.in_ok-text.text (record { bytes = c.as_bytes.result.now; held = tt; is = c.in_ok-text.ensures })

pub returns : goal.returns
returns c = c.settle.ensures sample_text (subst (λ (bs : List ℕ). IsTheText bs c.in_ok-text.text) (c.as_bytes.ensures.value ∙ c.document_text.ensures.text) c.in_ok-text.ensures)
