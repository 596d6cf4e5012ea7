-- What is printed of a document without its places is what is printed of the document.
use Rattle.std.proofs.Common.{ℕ, ◌≡◌, ◌∙◌, ◌++◌, List, [], ◌∷◌, map, refl, sym, ap, codes}
use Rattle.msc_base.specs.declared.label.LabelRef.{LabelRef}
use Rattle.msc_base.specs.declared.label.Kind.{Kind}
use Rattle.msc_base.specs.declared.label.Kind.TheVariants.{Output, Input, OutputLost, InputFound, Action, TimerStart, TimerStop, Timeout, Create}
use Rattle.msc_tree.specs.declared.event.RawEvent.{RawEvent}
use Rattle.msc_tree.specs.declared.reference.Join.{Join}
use Rattle.msc_tree.specs.Charts.{Content, Basic, HighLevel, Chart, Document}
use Rattle.msc_tree.specs.Graphs.{Graph, Lines, Line, Node, Graphs, graph, no_lines, line_and, line, Ends, Connect, Condition, Refer, Frames, no_graphs, graph_and}
use Rattle.msc_tree.specs.Statements.{Reference, Item, placed, Form, Single, Coregion, Inline, Stop, Items, no_items, item_and, Operand, InColumn, Outside, Operands, no_operands, operand_and, Statement, Column, Covered, Heading, Ended, Statements, no_statements, statement_and, statements}
use Rattle.msc_tree.specs.Statements as tree
use Rattle.msc_print.specs.Words.{Words, all_words, each_behind, separated_words, names_behind, end_words}
use Rattle.msc_print.specs.EventWords.{act_words, event_words, tag_words}
use Rattle.msc_print.specs.ExpressionWords.{expression_words, enclosed}
use Rattle.msc_print.specs.GraphWords.{graph_words, lines_words, line_words, node_words, next_words, label_word, label_words, frame_words, other_frame_words}
use Rattle.msc_tree.specs.Forms.{form_text}
use Rattle.msc_print.specs.StatementWords.{decl_words, join_words, joins_words, known_words, shared_words, reference_words, item_words, what_words, items_words, operand_words, operands_words, other_operand_words, statement_words, statements_words, head_words, column_words, covered_words}
use Rattle.msc_print.specs.ChartWords.{canonical_text, chart_words, content_words, head_list, decl_head_words, name_head_words, opening_words, closing_words}
use Rattle.msc_print.specs.Layout.{laid_out}
use Rattle.msc_print.specs.Unplaced.{unplaced_decl, unplaced_event, unplaced_label, unplaced_join, unplaced_reference, unplaced_graph, unplaced_lines, unplaced_line, unplaced_node, unplaced_graphs, unplaced_item, unplaced_form, unplaced_items, unplaced_operand, unplaced_operands, unplaced_statement, unplaced_statements, unplaced_content, unplaced_chart, without_places, SameAside}

-- ---- lists

module _ {A : Type 0} (f : A → Words) (g : A → A) (same : (x : A) → f (g x) ≡ f x) where
  pub all_unmoved : (xs : List A) → all_words f (map g xs) ≡ all_words f xs
  all_unmoved [] = refl
  all_unmoved (x ∷ xs) = rw (same x, all_unmoved xs) refl

  pub each_unmoved : (text : List ℕ) (xs : List A) → each_behind text f (map g xs) ≡ each_behind text f xs
  each_unmoved text [] = refl
  each_unmoved text (x ∷ xs) = rw (same x, each_unmoved text xs) refl

  pub separated_unmoved : (text : List ℕ) (xs : List A) → separated_words text f (map g xs) ≡ separated_words text f xs
  separated_unmoved text [] = refl
  separated_unmoved text (x ∷ xs) = rw (same x, each_unmoved text xs) refl

  pub head_unmoved : (word : List ℕ) (xs : List A) → head_list word f (map g xs) ≡ head_list word f xs
  head_unmoved word [] = refl
  head_unmoved word (x ∷ xs) = rw (same x, each_unmoved (codes ",") xs) refl

-- ---- parts

act_unmoved : (k : Kind) (e : RawEvent) → act_words k (unplaced_event e) ≡ act_words k e
act_unmoved Output e = refl
act_unmoved Input e = refl
act_unmoved OutputLost e = refl
act_unmoved InputFound e = refl
act_unmoved Action e = refl
act_unmoved TimerStart e = refl
act_unmoved TimerStop e = refl
act_unmoved Timeout e = refl
act_unmoved Create e = refl

event_unmoved : (e : RawEvent) → event_words (unplaced_event e) ≡ event_words e
event_unmoved e = ap (λ (act : Words). tag_words e.order.event_name ++ (act ++ (names_behind (codes "before") e.order.earlier_than ++ (names_behind (codes "after") e.order.later_than ++ end_words)))) (act_unmoved e.kind e)

joins_unmoved : (js : List Join) → joins_words (map unplaced_join js) ≡ joins_words js
joins_unmoved [] = refl
joins_unmoved (j ∷ js) = ap (λ (w : Words). codes "via" ∷ (join_words j ++ w)) (each_unmoved join_words unplaced_join (λ k. refl) (codes ",") js)

reference_unmoved : (r : Reference) → reference_words (unplaced_reference r) ≡ reference_words r
reference_unmoved r =
    ap (λ (w : Words). codes "reference" ∷ (known_words r.name ++ (expression_words r.expression ++ (w ++ (shared_words r.shared ++ end_words))))) (joins_unmoved r.joins)

-- ---- graphs

labels_unmoved : (ls : List LabelRef) → label_words (map unplaced_label ls) ≡ label_words ls
labels_unmoved = separated_unmoved label_word unplaced_label (λ l. refl) (codes "alt")

next_unmoved : (n : Node) (ls : List LabelRef) → next_words (unplaced_node n) (map unplaced_label ls) ≡ next_words n ls
next_unmoved Ends ls = refl
next_unmoved Connect ls = ap (λ (w : Words). codes "seq" ∷ (enclosed w ++ end_words)) (labels_unmoved ls)
next_unmoved (Condition names) ls = ap (λ (w : Words). codes "seq" ∷ (enclosed w ++ end_words)) (labels_unmoved ls)
next_unmoved (Refer x) ls = ap (λ (w : Words). codes "seq" ∷ (enclosed w ++ end_words)) (labels_unmoved ls)
next_unmoved (Frames fs) ls = ap (λ (w : Words). codes "seq" ∷ (enclosed w ++ end_words)) (labels_unmoved ls)

mutual
  graph_unmoved : (g : Graph) → graph_words (unplaced_graph g) ≡ graph_words g
  graph_unmoved (graph starts held) = rw (labels_unmoved starts, lines_unmoved held) refl

  lines_unmoved : (ls : Lines) → lines_words (unplaced_lines ls) ≡ lines_words ls
  lines_unmoved no_lines = refl
  lines_unmoved (line_and l ls) = rw (line_unmoved l, lines_unmoved ls) refl

  line_unmoved : (l : Line) → line_words (unplaced_line l) ≡ line_words l
  line_unmoved (line label place node labels) =
      ap (λ (w : Words). label ∷ codes ":" ∷ (w ++ next_words (unplaced_node node) (map unplaced_label labels))) (node_unmoved node)
      ∙ ap (λ (w : Words). label ∷ codes ":" ∷ (node_words node ++ w)) (next_unmoved node labels)

  node_unmoved : (n : Node) → node_words (unplaced_node n) ≡ node_words n
  node_unmoved Ends = refl
  node_unmoved Connect = refl
  node_unmoved (Condition names) = refl
  node_unmoved (Refer x) = refl
  node_unmoved (Frames fs) = frames_unmoved fs

  frames_unmoved : (fs : Graphs) → frame_words (unplaced_graphs fs) ≡ frame_words fs
  frames_unmoved no_graphs = refl
  frames_unmoved (graph_and g fs) = rw (graph_unmoved g, other_frames_unmoved fs) refl

  other_frames_unmoved : (fs : Graphs) → other_frame_words (unplaced_graphs fs) ≡ other_frame_words fs
  other_frames_unmoved no_graphs = refl
  other_frames_unmoved (graph_and g fs) = rw (graph_unmoved g, other_frames_unmoved fs) refl

-- ---- items, operands and statements

mutual
  item_unmoved : (i : Item) → item_words (unplaced_item i) ≡ item_words i
  item_unmoved (placed place form) = form_unmoved form

  form_unmoved : (f : Form) → what_words (unplaced_form f) ≡ what_words f
  form_unmoved (Single e) = event_unmoved e
  form_unmoved (Coregion es) = ap (λ (w : Words). codes "concurrent" ∷ (end_words ++ (w ++ codes "endconcurrent" ∷ end_words))) (all_unmoved event_words unplaced_event event_unmoved es)
  form_unmoved (tree.Condition names shared) = refl
  form_unmoved (Inline head held) = ap (λ (w : Words). head_words head ++ (w ++ form_text head.form ∷ codes "end" ∷ end_words)) (operands_unmoved (form_text head.form) held)
  form_unmoved (tree.Refer r) = reference_unmoved r
  form_unmoved Stop = refl

  items_unmoved : (is : Items) → items_words (unplaced_items is) ≡ items_words is
  items_unmoved no_items = refl
  items_unmoved (item_and i is) = rw (item_unmoved i, items_unmoved is) refl

  operand_unmoved : (o : Operand) → operand_words (unplaced_operand o) ≡ operand_words o
  operand_unmoved (InColumn is) = items_unmoved is
  operand_unmoved (Outside ss) = statements_unmoved ss

  operands_unmoved : (word : List ℕ) (os : Operands) → operands_words word (unplaced_operands os) ≡ operands_words word os
  operands_unmoved word no_operands = refl
  operands_unmoved word (operand_and o os) = rw (operand_unmoved o, other_operands_unmoved word os) refl

  other_operands_unmoved : (word : List ℕ) (os : Operands) → other_operand_words word (unplaced_operands os) ≡ other_operand_words word os
  other_operands_unmoved word no_operands = refl
  other_operands_unmoved word (operand_and o os) = rw (operand_unmoved o, other_operands_unmoved word os) refl

  statement_unmoved : (s : Statement) → statement_words (unplaced_statement s) ≡ statement_words s
  statement_unmoved (Column d is) = ap (λ (w : Words). column_words d w) (items_unmoved is)
  statement_unmoved (Covered cover is) = ap (λ (w : Words). covered_words cover w) (items_unmoved is)
  statement_unmoved (Heading d) = refl
  statement_unmoved (Ended n) = refl

  statements_unmoved : (ss : Statements) → statements_words (unplaced_statements ss) ≡ statements_words ss
  statements_unmoved no_statements = refl
  statements_unmoved (statement_and s ss) = rw (statement_unmoved s, statements_unmoved ss) refl

listed_unmoved : (ss : List Statement) → statements_words (statements (map unplaced_statement ss)) ≡ statements_words (statements ss)
listed_unmoved [] = refl
listed_unmoved (s ∷ ss) = rw (statement_unmoved s, listed_unmoved ss) refl

-- ---- documents

content_unmoved : (c : Content) → content_words (unplaced_content c) ≡ content_words c
content_unmoved (Basic ss) = listed_unmoved ss
content_unmoved (HighLevel g) = graph_unmoved g

chart_unmoved : (c : Chart) → chart_words (unplaced_chart c) ≡ chart_words c
chart_unmoved c =
    let decls = head_unmoved decl_words unplaced_decl (λ d. refl) (codes "inst") c.decls in
    let others = name_head_words (codes "msg") c.messages ++ name_head_words (codes "timer") c.timers in
    ap (λ (w : Words). codes "msc" ∷ c.name ∷ (end_words ++ ((w ++ others) ++ (content_words (unplaced_content c.content) ++ codes "endmsc" ∷ end_words)))) decls
    ∙ ap (λ (w : Words). codes "msc" ∷ c.name ∷ (end_words ++ ((decl_head_words c.decls ++ others) ++ (w ++ codes "endmsc" ∷ end_words)))) (content_unmoved c.content)

pub document_unmoved : (d : Document) → canonical_text (without_places d) ≡ canonical_text d
document_unmoved d = ap (λ (w : Words). laid_out (opening_words d.heading ++ (w ++ closing_words d.heading))) (all_unmoved chart_words unplaced_chart chart_unmoved d.charts)

-- documents that are the same but for their places are printed the same
pub same_text : (d e : Document) → SameAside d e → canonical_text d ≡ canonical_text e
same_text d e same = sym (document_unmoved d) ∙ ap canonical_text same ∙ document_unmoved e
