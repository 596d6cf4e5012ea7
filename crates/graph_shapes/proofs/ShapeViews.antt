-- Graphs without the contents of their nodes, line by line, and what plain graphs are of the types' values.
use Rattle.std.specs.Prelude.{ℕ, ◌<◌, ◌≤◌, ◌+◌, List, [], ◌∷◌, ◌++◌, ◌≡◌, map, take, length}
use Rattle.std.proofs.Common.{ap, sym, ◌∙◌, refl, get_or}
use Rattle.std.proofs.lemmas.List.{take_all, take_more}
use Rattle.msc_base.specs.declared.label.LabelRef.{LabelRef}
use Rattle.hmsc_graph.specs.declared.shape.ShapeLine.{ShapeLine}
use Rattle.msc_tree.specs.declared.graph.RawGraph.{RawGraph, out-RawGraph, fold_out-RawGraph}
use Rattle.msc_tree.specs.declared.graph.RawLine.{RawLine, out-RawLine, fold_out-RawLine}
use Rattle.msc_tree.specs.Graphs as tree
use Rattle.msc_tree.specs.Graphs.{Graph, graph, Line, line, lines}
use Rattle.msc_tree.specs.Views.{graph_view, line_view, node_view, node_step, graph_step, line_step}
use Rattle.graph_shapes.specs.GraphShapes.{shape_line, shape_lines, shape_of}

pub graph_is : (g : RawGraph) → graph_view g ≡ graph (out-RawGraph g).starts (lines (map line_view (out-RawGraph g).lines.items))
graph_is = fold_out-RawGraph tree.Node tree.Graph tree.Line node_step graph_step line_step

pub line_is : (l : RawLine) → line_view l ≡ line (out-RawLine l).label (out-RawLine l).place (node_view (out-RawLine l).node) (out-RawLine l).next
line_is = fold_out-RawLine tree.Node tree.Graph tree.Line node_step graph_step line_step

-- ---- one item more

pub map_added : {X Y : Type 0} (f : X → Y) (xs : List X) (x : X) → map f (xs ++ x ∷ []) ≡ map f xs ++ f x ∷ []
map_added f [] x = refl
map_added f (y ∷ xs) x = ap (λ ys. f y ∷ ys) (map_added f xs x)

pub map_taken : {X Y : Type 0} (f : X → Y) (xs : List X) (i : ℕ) (x : X) → i < length xs → x ≡ get_or xs i x → map f (take (i + 1) xs) ≡ map f (take i xs) ++ f x ∷ []
map_taken f xs i x l e = ap (map f) (take_more xs i x l) ∙ map_added f (take i xs) (get_or xs i x) ∙ ap (λ y. map f (take i xs) ++ f y ∷ []) (sym e)

shape_added : (xs : List Line) (x : Line) → shape_lines (lines (xs ++ x ∷ [])) ≡ shape_lines (lines xs) ++ shape_line x ∷ []
shape_added [] x = refl
shape_added (y ∷ xs) x = ap (λ (r : List ShapeLine). shape_line y ∷ r) (shape_added xs x)

pub shape_step : (ls : List RawLine) (i : ℕ) (l : RawLine) (held now : List ShapeLine) (made : ShapeLine) → i < length ls → l ≡ get_or ls i l → held ≡ shape_lines (lines (map line_view (take i ls))) → made ≡ shape_line (line_view l) → now ≡ held ++ made ∷ []
    → now ≡ shape_lines (lines (map line_view (take (i + 1) ls)))
shape_step ls i l held now made below is before e more =
    more ∙ ap (λ (r : List ShapeLine). r ++ made ∷ []) before ∙ ap (λ (s : ShapeLine). shape_lines (lines (map line_view (take i ls))) ++ s ∷ []) e
    ∙ sym (ap (λ (xs : List Line). shape_lines (lines xs)) (map_taken line_view ls i l below is) ∙ shape_added (map line_view (take i ls)) (line_view l))

pub shape_end : (g : RawGraph) (starts : List LabelRef) (held : List ShapeLine) (i : ℕ) (ls : List RawLine) → ls ≡ (out-RawGraph g).lines.items → starts ≡ (out-RawGraph g).starts → length ls ≤ i → held ≡ shape_lines (lines (map line_view (take i ls)))
    → record { starts = starts; lines = held } ≡ shape_of (graph_view g)
shape_end g starts held i ls e f l h =
    let all : held ≡ shape_lines (lines (map line_view (out-RawGraph g).lines.items)) = h ∙ ap (λ (xs : List RawLine). shape_lines (lines (map line_view xs))) (take_all i ls l ∙ e) in
    let same : record { starts = starts; lines = held } ≡ shape_of (graph (out-RawGraph g).starts (lines (map line_view (out-RawGraph g).lines.items))) =
    ap (λ (x : List LabelRef). record { starts = x; lines = held }) f ∙ ap (λ (x : List ShapeLine). record { starts = (out-RawGraph g).starts; lines = x }) all in
    same ∙ ap shape_of (sym (graph_is g))
