-- How the graph of a high-level chart is written, production by production (Z.120, clause 7.5).
-- A level is opened by the `expr` of a frame, and as in expressions; a node's own parenthesis opens none.
use Rattle.std.specs.Prelude.{ℕ, zero, suc, ◌⊎◌, List, [], codes}
use Rattle.msc_base.specs.declared.label.LabelRef.{LabelRef}
use Rattle.msc_base.specs.declared.place.Place.{Place}
use Rattle.msc_tree.specs.Expressions.{Expression}
use Rattle.msc_tree.specs.Graphs.{Graph, Line, Node, Ends, Connect, Condition, Refer, Frames, graph, line, lines, graphs}
use Rattle.token_grammar.specs.Languages.{just}
use Rattle.token_grammar.specs.Grammars.{Grammar, Inner, shut, inner, inside, seq, or, read_as, until, behind, opens}
use Rattle.token_grammar.specs.Parts.{placed_name, mark, ending, name_list, separated}
use Rattle.msc_expression.specs.ExpressionGrammar.{expression}

-- a label is a name, and stands where its token stands
abbrev pub label_of : List ℕ × Place → LabelRef
label_of p = record { name = p.0; place = p.1 }

abbrev pub label : Grammar LabelRef
label = read_as label_of placed_name

-- name { "alt" name }
abbrev pub labels : Grammar (List LabelRef)
labels = separated (codes "alt") label

abbrev pub graph_of : {E : Type 0} → List LabelRef × (Unit {0} × (List Line × E)) → Graph × E
graph_of p = (graph p.0 (lines p.1.1.0), p.1.1.1)

-- behind `expr`: name { "alt" name } end { line }, and what ends the lines
abbrev pub graph_rest : {E : Type 0} → Grammar E → Grammar Line → Grammar (Graph × E)
graph_rest E L = read_as graph_of (seq labels (seq ending (until L E)))

-- behind the `expr` of a frame, up to "endexpr"
abbrev pub frame_rest : Grammar Line → Grammar Graph
frame_rest L = read_as (λ p. p.0) (graph_rest (mark (codes "endexpr")) L)

-- node = "(" expr ")" | "connect" | "condition" names | frame { "par" frame }
abbrev pub node_of : Grammar Expression → Grammar Graph → Grammar Node
node_of X F = or (read_as (λ p. Refer p.0) (behind (just (codes "(")) (seq X (mark (codes ")")))))
    (or (read_as (λ t. Connect) (mark (codes "connect"))) (or (read_as Condition (behind (just (codes "condition")) name_list))
    (read_as (λ fs. Frames (graphs fs)) (separated (codes "par") F))))

-- "seq" "(" name { "alt" name } ")" end
abbrev pub next : Grammar (List LabelRef)
next = behind (just (codes "seq")) (behind (just (codes "(")) (read_as (λ p. p.0) (seq labels (seq (mark (codes ")")) ending))))

abbrev pub line_of : LabelRef × (Node × List LabelRef) → Line
line_of p = line p.0.name p.0.place p.1.0 p.1.1

-- what stands behind a line's label: "end" end, or a node and the next labels
abbrev pub line_rest : Grammar Expression → Grammar Graph → Grammar (Node × List LabelRef)
line_rest X F = or (read_as (λ e. (Ends, [])) (behind (just (codes "end")) ending)) (seq (node_of X F) next)

-- line = name ":" "end" end | name ":" node "seq" "(" name { "alt" name } ")" end, where L are lines one level deeper
abbrev pub line_in : Grammar Expression → Inner Line → Grammar Line
line_in X L = read_as line_of (seq label (behind (just (codes ":")) (line_rest X (opens (just (codes "expr")) (inside frame_rest L)))))

-- with at most so many levels open
unfoldable pub graph_line : ℕ → Grammar Line
graph_line zero = line_in (expression zero) shut
graph_line (suc n) = line_in (expression (suc n)) (inner (graph_line n))

-- the graph of a chart, and what ends it: its `expr` opens no level
abbrev pub chart_graph : {E : Type 0} → ℕ → Grammar E → Grammar (Graph × E)
chart_graph n E = behind (just (codes "expr")) (graph_rest E (graph_line n))
