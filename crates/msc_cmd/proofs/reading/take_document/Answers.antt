use Rattle.msc_cmd.proofs.Settling.{formed_text}
use Rattle.msc_cmd.proofs.reading.take_document.Goals as goal

pub settle-requires : goal.settle-requires
settle-requires g c = formed_text c.documents_are_exact.ensures.formed c.graphs_are_formed.ensures (g.S.Shelf.files c.args.shelf.now) c.args.name.now c.in_ok-text.text c.in_ok-text.ensures.text
