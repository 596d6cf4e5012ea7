use Rattle.msc_meaning.specs.Views.{table_view}
use Rattle.msc_acceptance.proofs.refinements.refinement_fault.Goals as goal

pub returns : goal.returns
returns c = λ charts are known. c.first_fault.ensures charts (table_view c.args.entries.now) are (c.in_ok-places.ensures charts are known.links) known.coregion
