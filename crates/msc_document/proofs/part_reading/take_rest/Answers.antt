use Rattle.std.proofs.Common.{◌∙◌, sym}
use Rattle.msc_tree.specs.Views.{document_view}
use Rattle.token_grammar.proofs.Refusals.{empty_of}
use Rattle.msc_document.proofs.PartReading.{goes_end, ending_of}
use Rattle.msc_document.proofs.part_reading.take_rest.Goals as goal

pub returns-then-is_empty : goal.returns-then-is_empty
returns-then-is_empty c =
    goes_end c.args.levels c.args.tokens.now c.in_ok-rest.rest.now (document_view c.args.document.now) _ c.in_ok-rest.ensures
    (ending_of c.args.levels c.in_ok-rest.rest.now c.in_ok-left.left.now c.in_ok-left.ensures (empty_of c.in_ok-left.left.now (sym c.is_empty.ensures ∙ c.if-is_empty.true)))
