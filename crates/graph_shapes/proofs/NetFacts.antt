-- The net of a graph's shape is the graph's, and has a node for each line.
use Rattle.std.specs.Prelude.{ℕ, suc, ◌≡◌, ◌≤◌, Bool, List, [], ◌∷◌, map, length}
use Rattle.std.proofs.Common.{ap, sym, ◌∙◌, refl, subst, arith}
use Rattle.msc_base.specs.declared.place.Place.{Place}
use Rattle.hmsc_graph.specs.declared.shape.Shape.{Shape}
use Rattle.hmsc_graph.specs.declared.shape.ShapeLine.{ShapeLine}
use Rattle.hmsc_graph.specs.Graphs.{Net}
use Rattle.hmsc_graph.specs.Nets.{IsNet, size_of}
use Rattle.hmsc_graph.specs.Shapes.{IsGraphOf, IsFaulty}
use Rattle.msc_tree.specs.Graphs.{Graph, graph, Lines, no_lines, line_and, line_list}
use Rattle.graph_shapes.specs.GraphNets.{lines_of, IsNetOfGraph}
use Rattle.graph_shapes.specs.GraphShapes.{shape_lines, shape_of}

as_many_lines : (lines : Lines) → length (shape_lines lines) ≡ length (line_list lines)
as_many_lines no_lines = refl
as_many_lines (line_and x xs) = ap suc (as_many_lines xs)

as_many_ends : (ls : List ShapeLine) → length (map (λ (l : ShapeLine). l.ends) ls) ≡ length ls
as_many_ends [] = refl
as_many_ends (l ∷ ls) = ap suc (as_many_ends ls)

-- a node for each line
pub sized : (drawn : Graph) (g : Net) → IsNetOfGraph drawn g → size_of g ≡ length (line_list (lines_of drawn))
sized (graph starts lines) g h = ap (length {A = Bool}) h.drawn.ends ∙ as_many_ends (shape_lines lines) ∙ as_many_lines lines

-- the shape has as many lines as the graph
pub shape_length : (drawn : Graph) (s : Shape) (most : ℕ) → s ≡ shape_of drawn → length (line_list (lines_of drawn)) ≤ most → length s.lines ≤ most
shape_length (graph starts lines) s most e l = omega (arith, l, ap (λ (x : Shape). length x.lines) e, as_many_lines lines)

-- the net that was built of the graph's shape is the graph's
pub net_of_graph : (drawn : Graph) (s : Shape) (g : Net) → s ≡ shape_of drawn → IsGraphOf s g → ((p : Place) → IsFaulty s p → ⊥) → IsNet g → IsNetOfGraph drawn g
net_of_graph (graph starts lines) s g e is faultless net =
    record { drawn = subst (λ (x : Shape). IsGraphOf x g) e is; faultless = λ p h. faultless p (subst (λ (x : Shape). IsFaulty x p) (sym e) h); net = net }

-- there is no other
pub only_net : (drawn : Graph) (s : Shape) (g : Net) → s ≡ shape_of drawn → ((other : Net) → IsGraphOf s other → other ≡ g) → (other : Net) → IsNetOfGraph drawn other → other ≡ g
only_net (graph starts lines) s g e only other h = only other (subst (λ (x : Shape). IsGraphOf x other) (sym e) h.drawn)
