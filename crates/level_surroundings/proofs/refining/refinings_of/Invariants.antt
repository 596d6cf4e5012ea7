use Rattle.std.proofs.Common.{◌≡◌, take}
use Rattle.msc_meaning.specs.ItemViews.{items_view}
use Rattle.msc_meaning.specs.Refinements.{refinings}
use Rattle.msc_meaning.specs.Views.{table_view}
use Rattle.level_surroundings.specs.DecomposedInstances.{refinements_view}
use Rattle.level_surroundings.specs.RefiningViews.{refinings_view}
use Rattle.level_surroundings.proofs.refining.refinings_of.Given as goal

abbrev pub invariant-loop-refinement : goal.invariant-loop-refinement
invariant-loop-refinement l = refinings_view l.list.items ≡ refinings (table_view l.table.charts.now) (items_view l.items) (refinements_view (take l.refinement-index l.refinements))
