-- The graph of a chart that was read is written so that it reads back, with no more levels open.
use Rattle.std.proofs.Common.{ℕ, ◌≡◌, ◌∙◌, ◌++◌, false, List, [], ◌∷◌, map, refl, sym, ap, suc, zero, append_assoc, codes}
use Rattle.msc_base.specs.declared.label.LabelRef.{LabelRef}
use Rattle.msc_tokens.specs.Places.{first_place}
use Rattle.msc_tree.specs.Graphs.{Graph, Lines, Line, Node, Ends, Connect, Condition, Refer, Frames, graph, line, lines, graphs}
use Rattle.token_grammar.specs.Languages.{just, names}
use Rattle.token_grammar.specs.Grammars.{Grammar, Inner, shut, inner, inside, seq, read_as, until, behind, opens}
use Rattle.token_grammar.specs.Parts.{placed_name, mark, ending, name_list, separated}
use Rattle.msc_expression.specs.ExpressionGrammar.{expression}
use Rattle.msc_expression.specs.GraphGrammar.{label, label_of, labels, graph_of, graph_rest, frame_rest, node_of, next, line_of, line_rest, line_in, graph_line, chart_graph}
use Rattle.msc_print.specs.Words.{Words, all_words, each_behind, separated_words, end_words}
use Rattle.msc_print.specs.ExpressionWords.{enclosed}
use Rattle.msc_print.specs.GraphWords.{graph_words, is_end, label_word, label_words, line_words, lines_words, node_words, next_words, frame_words, other_frame_words}
use Rattle.msc_print.specs.Unplaced.{unplaced_label, unplaced_graph, unplaced_graphs, unplaced_line, unplaced_lines, unplaced_node}
use Rattle.msc_print.proofs.Backs.{Back, Any, same, both, beside, pair_is, back_seq, back_or, back_as, back_so, back_mark, back_placed_word, back_behind, back_opens, back_separated, back_until, but_plain}
use Rattle.msc_print.proofs.ExpressionsBack.{expression_back}
use Rattle.msc_print.proofs.PartsBack.{ending_back, names_back}

labels_back : Back labels Any label_words (map unplaced_label)
labels_back = back_so labels Any label_words (map unplaced_label) same (back_separated (codes "alt") label refl
    (back_as label_of placed_name Any label_word unplaced_label (λ c. record { name = c; place = first_place }) (back_placed_word names (but_plain [])) (λ p m. tt) (λ p m. refl) (λ p. refl))) (λ a m. tt) (λ a m. refl) (λ a. refl)

lines_are : (ls : List Line) → lines_words (lines ls) ≡ all_words line_words ls
lines_are [] = refl
lines_are (l ∷ ls) = ap (λ (w : Words). line_words l ++ w) (lines_are ls)

lines_shown : (ls : List Line) → unplaced_lines (lines ls) ≡ lines (map unplaced_line ls)
lines_shown [] = refl
lines_shown (l ∷ ls) = rw (lines_shown ls) refl

graphs_shown : (gs : List Graph) → unplaced_graphs (graphs gs) ≡ graphs (map unplaced_graph gs)
graphs_shown [] = refl
graphs_shown (g ∷ gs) = rw (graphs_shown gs) refl

abbrev frame_word : Graph → Words
frame_word g = graph_words g ++ codes "endexpr" ∷ []

other_frames_are : (gs : List Graph) → other_frame_words (graphs gs) ≡ each_behind (codes "par") frame_word gs
other_frames_are [] = refl
other_frames_are (g ∷ gs) = ap (λ (w : Words). codes "par" ∷ w) (sym append_assoc_of ∙ ap (λ (w : Words). frame_word g ++ w) (other_frames_are gs))
  where
    append_assoc_of : (graph_words g ++ codes "endexpr" ∷ []) ++ other_frame_words (graphs gs) ≡ graph_words g ++ codes "endexpr" ∷ other_frame_words (graphs gs)
    append_assoc_of = simp append_assoc

frames_are : (gs : List Graph) → frame_words (graphs gs) ≡ separated_words (codes "par") frame_word gs
frames_are [] = refl
frames_are (g ∷ gs) = sym append_assoc_of ∙ ap (λ (w : Words). frame_word g ++ w) (other_frames_are gs)
  where
    append_assoc_of : (graph_words g ++ codes "endexpr" ∷ []) ++ other_frame_words (graphs gs) ≡ graph_words g ++ codes "endexpr" ∷ other_frame_words (graphs gs)
    append_assoc_of = simp append_assoc

-- behind `expr`
abbrev rest_words : Graph → Words
rest_words (graph starts held) = label_words starts ++ (end_words ++ lines_words held)

graph_is : (g : Graph) → graph_words g ≡ codes "expr" ∷ rest_words g
graph_is (graph starts held) = refl

rest_back : {E F : Type 0} (E' : Grammar E) (L : Grammar Line) {P : E → Type 0} {w : E → Words} {f : E → F} → Back E' P w f → Back L Any line_words unplaced_line →
    Back (graph_rest E' L) (λ p. P p.1) (beside rest_words w) (both unplaced_graph f)
rest_back {F = F} E' L {P = P} {w = w} {f = f} e l =
    back_as graph_of (seq labels (seq ending (until L E'))) (λ p. P p.1) (beside rest_words w) (both unplaced_graph f) made
    (back_seq labels _ labels_back (back_seq ending _ ending_back (back_until L l E' e)))
    (λ p m. m.1.1) (λ p m. regroup (label_words p.0) (lines_words (lines p.1.1.0)) (w p.1.1.1) ∙ ap (λ (u : Words). label_words p.0 ++ (end_words ++ (u ++ w p.1.1.1))) (lines_are p.1.1.0))
    (λ p. pair_is (unplaced_graph (graph p.0 (lines p.1.1.0))) (graph (map unplaced_label p.0) (lines (map unplaced_line p.1.1.0))) (f p.1.1.1) (f p.1.1.1) (ap (λ (u : Lines). graph (map unplaced_label p.0) u) (lines_shown p.1.1.0)) refl)
  where
    made : List LabelRef × (Unit {0} × (List Line × F)) → Graph × F
    made c = (graph c.0 (lines c.1.1.0), c.1.1.1)

    regroup : (a b c : Words) → (a ++ (end_words ++ b)) ++ c ≡ a ++ (end_words ++ (b ++ c))
    regroup a b c = simp append_assoc

frame_back : (L : Grammar Line) → Back L Any line_words unplaced_line → Back (opens (just (codes "expr")) (inner (frame_rest L))) Any frame_word unplaced_graph
frame_back L l = back_so (opens (just (codes "expr")) (inner (frame_rest L))) Any frame_word unplaced_graph same (back_opens (just (codes "expr")) (codes "expr") (frame_rest L) refl
    (back_as (λ p. p.0) (graph_rest (mark (codes "endexpr")) L) Any (λ g. rest_words g ++ codes "endexpr" ∷ []) unplaced_graph (λ c. c.0)
    (rest_back (mark (codes "endexpr")) L (back_mark (just (codes "endexpr")) (codes "endexpr") refl) l) (λ p m. tt) (λ p m. refl) (λ p. refl)))
    (λ g m. tt) (λ g m. ap (λ (u : Words). u ++ codes "endexpr" ∷ []) (graph_is g)) (λ g. refl)

abbrev Goes : Node → Type 0
Goes n = is_end n ≡ false

node_back : (n : ℕ) (F : Grammar Graph) → Back F Any frame_word unplaced_graph → Back (node_of (expression n) F) Goes node_words unplaced_node
node_back n F r = back_or _ _
    (back_as (λ p. Refer p.0) (behind (just (codes "(")) (seq (expression n) (mark (codes ")")))) Goes node_words unplaced_node (λ c. Refer c.0)
    (back_behind (just (codes "(")) (codes "(") _ refl (back_seq (expression n) _ (expression_back n) (back_mark (just (codes ")")) (codes ")") refl))) (λ p m. refl) (λ p m. refl) (λ p. refl))
    (back_or _ _ (back_as (λ t. Connect) (mark (codes "connect")) Goes node_words unplaced_node (λ c. Connect) (back_mark (just (codes "connect")) (codes "connect") refl) (λ p m. refl) (λ p m. refl) (λ p. refl))
    (back_or _ _ (back_as Condition (behind (just (codes "condition")) name_list) Goes node_words unplaced_node Condition (back_behind (just (codes "condition")) (codes "condition") name_list refl names_back) (λ p m. refl) (λ p m. refl) (λ p. refl))
    (back_as (λ fs. Frames (graphs fs)) (separated (codes "par") F) Goes node_words unplaced_node (λ c. Frames (graphs c)) (back_separated (codes "par") F refl r) (λ p m. refl) (λ p m. frames_are p) (λ p. ap Frames (graphs_shown p)))))

next_back : Back next Any (λ ls. codes "seq" ∷ (enclosed (label_words ls) ++ end_words)) (map unplaced_label)
next_back = back_behind (just (codes "seq")) (codes "seq") (behind (just (codes "(")) (read_as (λ p. p.0) (seq labels (seq (mark (codes ")")) ending)))) refl (back_so (behind (just (codes "(")) (read_as (λ p. p.0) (seq labels (seq (mark (codes ")")) ending)))) Any (λ ls. enclosed (label_words ls) ++ end_words) (map unplaced_label) same (back_behind (just (codes "(")) (codes "(") _ refl
    (back_as (λ p. p.0) (seq labels (seq (mark (codes ")")) ending)) Any (λ ls. label_words ls ++ codes ")" ∷ end_words) (map unplaced_label) (λ c. c.0)
    (back_seq labels _ labels_back (back_seq (mark (codes ")")) ending (back_mark (just (codes ")")) (codes ")") refl) ending_back)) (λ p m. tt) (λ p m. refl) (λ p. refl)))
    (λ a m. tt) (λ a m. regroup (label_words a)) (λ a. refl))
  where
    regroup : (a : Words) → (codes "(" ∷ (a ++ codes ")" ∷ [])) ++ end_words ≡ codes "(" ∷ (a ++ codes ")" ∷ end_words)
    regroup a = simp append_assoc

abbrev node_and_next : Node × List LabelRef → Words
node_and_next p = node_words p.0 ++ next_words p.0 p.1

abbrev ended : Unit {0} → Node × List LabelRef
ended e = (Ends, [])

line_rest_back : (n : ℕ) (F : Grammar Graph) → Back F Any frame_word unplaced_graph → Back (line_rest (expression n) F) Any node_and_next (both unplaced_node (map unplaced_label))
line_rest_back n F r = back_or _ _
    (back_as (λ e. (Ends, [])) (behind (just (codes "end")) ending) Any node_and_next (both unplaced_node (map unplaced_label)) ended (back_behind (just (codes "end")) (codes "end") ending refl ending_back) (λ p m. tt) (λ p m. refl) (λ p. refl))
    (back_so (seq (node_of (expression n) F) next) Any node_and_next (both unplaced_node (map unplaced_label)) same (back_seq (node_of (expression n) F) next (node_back n F r) next_back)
    (λ p m. tt) (λ p m. ap (λ (u : Words). node_words p.0 ++ u) (rw m.0 refl)) (λ p. refl))

line_back : (n : ℕ) (L : Inner Line) → Back (opens (just (codes "expr")) (inside frame_rest L)) Any frame_word unplaced_graph → Back (line_in (expression n) L) Any line_words unplaced_line
line_back n L r = back_as line_of (seq label (behind (just (codes ":")) (line_rest (expression n) (opens (just (codes "expr")) (inside frame_rest L))))) Any line_words unplaced_line (λ c. line c.0.name first_place c.1.0 c.1.1)
    (back_seq label _ (back_as label_of placed_name Any label_word unplaced_label (λ c. record { name = c; place = first_place }) (back_placed_word names (but_plain [])) (λ p m. tt) (λ p m. refl) (λ p. refl))
    (back_behind (just (codes ":")) (codes ":") _ refl (line_rest_back n _ r))) (λ p m. tt) (λ p m. refl) (λ p. refl)

pub graph_line_back : (n : ℕ) → Back (graph_line n) Any line_words unplaced_line
unfolding graph_line
graph_line_back zero = line_back 0 shut (record { back = λ x a h. absurd h; tidy = λ x a h proper. absurd h })
graph_line_back (suc n) = line_back (suc n) (inner (graph_line n)) (frame_back (graph_line n) (graph_line_back n))

pub chart_graph_back : {E F : Type 0} (n : ℕ) (E' : Grammar E) {P : E → Type 0} {w : E → Words} {f : E → F} → Back E' P w f → Back (chart_graph n E') (λ p. P p.1) (beside graph_words w) (both unplaced_graph f)
chart_graph_back n E' {P = P} {w = w} {f = f} e = back_so (chart_graph n E') (λ p. P p.1) (beside graph_words w) (both unplaced_graph f) same
    (back_behind (just (codes "expr")) (codes "expr") _ refl (rest_back E' (graph_line n) e (graph_line_back n))) (λ p m. m) (λ p m. ap (λ (u : Words). u ++ w p.1) (graph_is p.0)) (λ p. refl)
