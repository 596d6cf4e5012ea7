use Rattle.std.proofs.Common.{refl}
use Rattle.msc_tree.specs.Views.{document_view}
use Rattle.msc_document.proofs.PartReading.{heading_goes}
use Rattle.msc_document.proofs.part_reading.take_heading.Goals as goal

pub returns : goal.returns
returns c =
    heading_goes c.args.levels c.args.tokens.now c.in_ok-heading.rest.now c.in_ok-heading.heading (document_view c.args.document.now) _ c.in_ok-heading.ensures c.if-not-is_new.ensures refl
