use Rattle.msc_tree.specs.Views.{document_view}
use Rattle.msc_document.proofs.PartReading.{written}
use Rattle.msc_document.proofs.part_reading.finish.Goals as goal

pub returns-in-Ok : goal.returns-in-Ok
returns-in-Ok c =
    λ bytes h. written c.args.levels bytes c.in-Ok.list.tokens c.as_slice.result.now c.args.lexer (document_view c.args.document) (document_view c.take_rest.new.document) c.in-Ok.ensures c.as_slice.ensures c.in_ok-take_rest-in-Ok.ensures h
