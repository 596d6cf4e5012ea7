use Rattle.std.proofs.Common.{◌≡◌, ◌++◌, drop}
use Rattle.std.specs.List.{flat_map}
use Rattle.graph_text.specs.GraphPartViews.{parts_view}
use Rattle.graph_text.proofs.noting.note_graph.Given as goal

abbrev pub invariant-loop-part : goal.invariant-loop-part
invariant-loop-part g l = l.places ++ flat_map g.R.GraphRule.told (parts_view (drop l.part-index l.parts)) ≡ l.initial.places ++ flat_map g.R.GraphRule.told (parts_view l.parts)
