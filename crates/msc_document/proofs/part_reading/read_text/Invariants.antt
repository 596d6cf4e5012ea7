use Rattle.std.proofs.Common.{◌≤◌, ◌+◌, length}
use Rattle.msc_tree.specs.Views.{document_view}
use Rattle.msc_document.specs.DocumentParts.{IsAt}
use Rattle.msc_document.proofs.part_reading.read_text.Given as goal

abbrev pub invariant-loop-rest : goal.invariant-loop-rest
invariant-loop-rest l = record {
  at : IsAt l.levels l.text l.rest l.lexer (document_view l.document);
  bound : l.lexer.place.byte + length l.rest ≤ length l.text;
}

abbrev pub decreases-loop-rest : goal.decreases-loop-rest
decreases-loop-rest l = length l.rest
