-- Serves private contracts alone.
-- The graphs that those of the code stand for, and the earlier of two places.
use Rattle.std.specs.Borrow.{Bor}
use Rattle.std.specs.Prelude.{List, Option, None, Some, map}
use Rattle.msc_base.specs.Places.{earliest}
use Rattle.msc_base.specs.declared.place.Place.{Place}
use Rattle.msc_tree.specs.declared.graph.RawGraph.{RawGraph}
use Rattle.msc_tree.specs.Graphs.{Graph}
use Rattle.msc_tree.specs.Views.{graph_view}

abbrev pub graphs_view : List (Bor RawGraph) → List Graph
graphs_view gs = map (λ (g : Bor RawGraph). graph_view g.now) gs

-- the earlier of two places, where there are any
abbrev pub earlier_of : Option Place → Option Place → Option Place
earlier_of so_far None = so_far
earlier_of so_far (Some p) = earliest so_far p
