use Rattle.msc_document.proofs.DrawnGraphs.{graphs_are_formed}
use Rattle.msc_document.proofs.laws.graphs_are_formed.Goals as goal

pub returns : goal.returns
returns c = graphs_are_formed
