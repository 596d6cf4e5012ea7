-- The graphs that are read have labels at which walks start, and expressions with two parts at least.
use Rattle.std.proofs.Common.{ℕ, zero, suc, ◌≡◌, true, List, [], ◌∷◌, codes, refl}
use Rattle.formed_graphs.specs.FormedGraphs.{AreFormedFrames, AreFormedLines, HasFormedGraph, HaveFormedGraphs, IsFormedGraph, IsFormedLine, IsFormedNode, has_start}
use Rattle.msc_base.specs.declared.label.LabelRef.{LabelRef}
use Rattle.msc_tree.specs.Charts.{Chart, Basic, HighLevel}
use Rattle.msc_tree.specs.Expressions.{Expression}
use Rattle.msc_tree.specs.Graphs.{Graph, Line, Connect, Condition, Ends, Frames, Refer, graphs, lines}
use Rattle.token_grammar.specs.Languages.{just}
use Rattle.token_grammar.specs.Grammars.{Grammar, Inner, shut, inner, seq, behind}
use Rattle.token_grammar.specs.Parts.{ending, mark, name, name_list}
use Rattle.msc_events.specs.Declarations.{declared_by, head, heading}
use Rattle.msc_expression.specs.ExpressionGrammar.{expression}
use Rattle.msc_expression.specs.GraphGrammar.{chart_graph, frame_rest, graph_line, graph_of, graph_rest, label, labels, line_in, line_of, line_rest, next, node_of}
use Rattle.msc_document.specs.DocumentGrammar.{chart, chart_end, chart_of, content, document, perhaps, statement}
use Rattle.msc_document.specs.FormedGraphs.{GraphsAreFormed}
use Rattle.msc_document.specs.Inlines.{each}
use Rattle.msc_document.proofs.FormedExpressions.{HasParts, expression_formed}
use Rattle.msc_document.proofs.Giving.{Gives, Each, IsSome, Within, anything, weaker, read_gives, or_gives, seq_gives, behind_gives, placed_gives, each_gives, until_gives, opens_gives, separated_gives}

-- ---- graphs

started : (ls : List LabelRef) → Each (λ l. Unit {0}) ls × IsSome ls → has_start ls ≡ true
started [] h = absurd h.1
started (l ∷ ls) h = refl

labels_start : Gives labels (λ ls. has_start ls ≡ true)
labels_start = weaker (separated_gives (codes "alt") (weaker (anything label) (λ l h. tt))) started

lines_formed : (xs : List Line) → Each IsFormedLine xs → AreFormedLines (lines xs)
lines_formed [] h = tt
lines_formed (x ∷ xs) h = (h.0, lines_formed xs h.1)

frames_formed : (gs : List Graph) → Each IsFormedGraph gs → AreFormedFrames (graphs gs)
frames_formed [] h = tt
frames_formed (g ∷ gs) h = (h.0, frames_formed gs h.1)

rest_formed : {E : Type 0} (Ending : Grammar E) {L : Grammar Line} → Gives L IsFormedLine → Gives (graph_rest Ending L) (λ p. IsFormedGraph p.0)
rest_formed Ending l = read_gives graph_of (weaker (seq_gives labels_start (seq_gives (anything ending) (until_gives Ending l))) (λ p h. (h.0, lines_formed p.1.1.0 h.1.1)))

frame_formed : {L : Grammar Line} → Gives L IsFormedLine → Gives (frame_rest L) IsFormedGraph
frame_formed l = read_gives (λ p. p.0) (rest_formed (mark (codes "endexpr")) l)

node_formed : {X : Grammar Expression} {F : Grammar Graph} → Gives X HasParts → Gives F IsFormedGraph → Gives (node_of X F) IsFormedNode
node_formed x f = or_gives (read_gives (λ p. Refer p.0) (behind_gives (just (codes "(")) (weaker (seq_gives x (anything (mark (codes ")")))) (λ p h. h.0))))
    (or_gives (read_gives (λ t. Connect) (weaker (anything (mark (codes "connect"))) (λ t h. tt)))
    (or_gives (read_gives Condition (weaker (anything (behind (just (codes "condition")) name_list)) (λ t h. tt)))
    (read_gives (λ gs. Frames (graphs gs)) (weaker (separated_gives (codes "par") f) (λ gs h. frames_formed gs h.0)))))

node_line : {X : Grammar Expression} {F : Grammar Graph} → Gives X HasParts → Gives F IsFormedGraph → Gives (line_rest X F) (λ p. IsFormedNode p.0)
node_line x f = or_gives (read_gives (λ e. (Ends, [])) (weaker (anything (behind (just (codes "end")) ending)) (λ e h. tt))) (weaker (seq_gives (node_formed x f) (anything next)) (λ p h. h.0))

line_formed : {X : Grammar Expression} (L : Inner Line) → Gives X HasParts → Within L IsFormedLine → Gives (line_in X L) IsFormedLine
line_formed L x w = read_gives line_of (weaker (seq_gives (anything label) (behind_gives (just (codes ":")) (node_line x (opens_gives (just (codes "expr")) frame_rest (λ R r. frame_formed r) L w)))) (λ p h. h.1))

graph_line_formed : (n : ℕ) → Gives (graph_line n) IsFormedLine
unfolding graph_line
graph_line_formed zero = line_formed shut (expression_formed zero) tt
graph_line_formed (suc n) = line_formed (inner (graph_line n)) (expression_formed (suc n)) (graph_line_formed n)

chart_graph_formed : {E : Type 0} (n : ℕ) (Ending : Grammar E) → Gives (chart_graph n Ending) (λ p. IsFormedGraph p.0)
chart_graph_formed n Ending = behind_gives (just (codes "expr")) (rest_formed Ending (graph_line_formed n))

-- ---- charts and documents

content_drawn : (n : ℕ) → Gives (content n) HasFormedGraph
content_drawn n = or_gives (read_gives (λ p. Basic p.0) (weaker (anything (seq (each (statement n)) chart_end)) (λ p h. tt))) (read_gives (λ p. HighLevel p.0) (chart_graph_formed n chart_end))

chart_drawn : (n : ℕ) → Gives (chart n) (λ c. HasFormedGraph c.content)
chart_drawn n = read_gives (λ p. chart_of p.0 p.1.0 (declared_by p.1.1.1.0) p.1.1.1.1) (weaker (placed_gives (just (codes "msc"))
    (seq_gives (anything name) (seq_gives (anything ending) (seq_gives (anything (each head)) (content_drawn n)))))
    (λ p h. h.1.1.1))

each_drawn : (charts : List Chart) → Each (λ (c : Chart). HasFormedGraph c.content) charts → HaveFormedGraphs charts
each_drawn [] h = tt
each_drawn (c ∷ cs) h = (h.0, each_drawn cs h.1)

document_drawn : (n : ℕ) → Gives (document n) (λ d. HaveFormedGraphs d.charts)
document_drawn n = read_gives (λ p. record { heading = p.0; charts = p.1.0 }) (weaker (seq_gives (anything (perhaps heading))
    (seq_gives (each_gives (chart_drawn n)) (anything (perhaps (behind (just (codes "endmscdocument")) ending))))) (λ p h. each_drawn p.1.0 h.1.0))

pub graphs_are_formed : GraphsAreFormed
graphs_are_formed n tokens d h = (document_drawn n).gives tokens d h
