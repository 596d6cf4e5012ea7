use Rattle.msc_tree.specs.Views.{document_view}
use Rattle.msc_document.specs.DocumentParts.{Continues}
use Rattle.msc_document.proofs.part_reading.take_part.Given as goal

abbrev pub invariant-loop-k : goal.invariant-loop-k
invariant-loop-k l = Continues l.levels l.fn.tokens l.rest (document_view l.fn.document) (document_view l.document)
