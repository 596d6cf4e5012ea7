use Rattle.std.proofs.Common.{IfSome, Option, subst}
use Rattle.msc_base.specs.declared.limits.TheConstants.Limits.{NESTING}
use Rattle.msc_document.specs.DocumentParts.{IsWritten}
use Rattle.msc_tree.specs.declared.chart.RawDocument.{RawDocument}
use Rattle.msc_tree.specs.Views.{document_view}
use Rattle.msc_cmd.proofs.TextFaults.{written_text}
use Rattle.msc_cmd.proofs.document_text.read_text.Goals as goal

pub returns-in-Some : goal.returns-in-Some
returns-in-Some c =
    written_text c.args.text.now (document_view c.in-Some.document) c.requires
    (subst (λ (o : Option RawDocument). IfSome o (λ document. IsWritten NESTING c.args.text.now (document_view document))) c.in-Some.is c.in_ok-document.ensures)
