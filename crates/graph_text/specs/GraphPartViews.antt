-- The plain parts that those of the code stand for.
use Rattle.std.specs.Prelude.{List, map}
use Rattle.graph_text.specs.declared.part.GraphPart.{GraphPart}
use Rattle.graph_text.specs.declared.part.GraphPart.TheVariants as part
use Rattle.graph_text.specs.GraphTexts as plain
use Rattle.msc_tree.specs.Views.{graph_view, node_view}

abbrev pub part_view : GraphPart → plain.GraphPart
part_view (part.Graph depth graph) = plain.a_graph depth (graph_view graph.now)
part_view (part.Line depth line) = plain.a_line depth line.now.place (node_view line.now.node)

-- a list of them
abbrev pub parts_view : List GraphPart → List plain.GraphPart
parts_view parts = map part_view parts
