use Rattle.std.proofs.Common.{take}
use Rattle.level_surroundings.specs.DecomposedInstances.{HasInstances, refinements_view}
use Rattle.level_surroundings.proofs.decomposed.names_of.Given as goal

abbrev pub invariant-loop-refinement : goal.invariant-loop-refinement
invariant-loop-refinement l = HasInstances l.names (refinements_view (take l.refinement-index l.list))
