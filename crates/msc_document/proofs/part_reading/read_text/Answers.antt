use Rattle.std.proofs.Common.{◌∙◌, sym}
use Rattle.msc_tree.specs.Views.{document_view}
use Rattle.msc_document.proofs.PartReading.{at_end, no_bytes}
use Rattle.msc_document.proofs.part_reading.read_text.Goals as goal

pub returns : goal.returns
returns c =
    c.finish.ensures c.args.text.now
    (at_end c.args.levels c.args.text.now c.loop-rest.rest.now c.loop-rest.lexer (document_view c.loop-rest.document) (no_bytes c.loop-rest.rest.now (sym c.is_empty.ensures ∙ c.loop-rest-test.false)) c.loop-rest.invariant.at)
