-- The readers of graphs are exact.
use Rattle.std.proofs.Common.{ℕ, ◌≡◌, ◌∙◌, ◌++◌, true, List, [], ◌∷◌, refl, inr, suc, zero, None, Ok, Err, codes}
use Rattle.msc_base.specs.declared.label.LabelRef.{LabelRef}
use Rattle.msc_tokens.specs.declared.token.Token.{Token}
use Rattle.msc_tokens.specs.Places.{first_place}
use Rattle.msc_tree.specs.Graphs.{Graph, Line, Node, Ends, Connect, Condition, Refer, Frames, graph, lines, no_lines, graphs}
use Rattle.token_grammar.specs.Classes.{token_of}
use Rattle.token_grammar.specs.Languages.{Set, Read, apart, just, names, seq_at, word_at, map_at, until_at, behind_at}
use Rattle.token_grammar.specs.Grammars.{Grammar, seq, read_as, behind}
use Rattle.token_grammar.specs.PartReaders.{ending_at}
use Rattle.token_grammar.proofs.Lists.{apart_none}
use Rattle.token_grammar.proofs.Levels.{Opened}
use Rattle.token_grammar.proofs.Flats.{rule_by}
use Rattle.token_grammar.proofs.Rules.{Law, Rule, Word, seq_law, seq_rule, or_law, or_rule, as_law, as_rule, until_law, until_rule, shut_law, inner_law, shut_rule, inner_rule, equal_law, equal_rule}
use Rattle.token_grammar.proofs.Optionals.{none, behind_law, behind_rule, mapped, paired}
use Rattle.token_grammar.proofs.PartRules.{law_by, mark_law, mark_rule, ending_law, ending_rule, placed_name_rule, name_list_law, name_list_rule, separated_law, separated_rule}
use Rattle.msc_expression.specs.ExpressionGrammar.{expression}
use Rattle.msc_expression.specs.ExpressionReaders.{expression_at}
use Rattle.msc_expression.specs.GraphGrammar.{label_of, label, labels, graph_of, graph_rest, frame_rest, node_of, next, line_of, line_rest, graph_line, chart_graph}
use Rattle.msc_expression.specs.GraphReaders.{label_at, labels_at, lines_at, graph_rest_at, frame_rest_at, node_at, next_at, line_rest_at, graph_line_at, chart_graph_at}
use Rattle.msc_expression.proofs.ExpressionRules.{expression_law, expression_rule}

label_rule : (n : ℕ) → Rule (λ m. label) n names none label_at
label_rule n = as_rule label_of none (placed_name_rule n) (λ a. refl)

-- what can't follow labels
abbrev pub after_labels : List LabelRef → Set
after_labels ls = just (codes "alt")

pub labels_rule : (n : ℕ) → Rule (λ m. labels) n names after_labels labels_at
labels_rule n = separated_rule (codes "alt") refl refl (label_rule n)

next_rule : (n : ℕ) → Rule (λ m. next) n (just (codes "seq")) none next_at
next_rule n = behind_rule (just (codes "seq")) (codes "seq") refl (behind_rule (just (codes "(")) (codes "(") refl (as_rule (λ p. p.0) none
    (seq_rule (labels_rule n) (seq_rule (mark_rule (codes ")") refl n) (ending_rule n) (λ a. refl)) (λ a. refl)) (λ a. refl)))

-- ---- lines, and what ends them

module _ {E : Type 0} (p : List Token → Read Line) (q : List Token → Read E) where
  -- the lines, read together with what ends them
  abbrev long_at : List Token → Read (Graph × E)
  long_at = map_at graph_of (seq_at labels_at (seq_at ending_at (until_at names p q)))

  abbrev as_graph : List LabelRef × (Unit {0} × List Line) → Graph
  as_graph x = graph x.0 (lines x.1.1)

  ended : (ls : List LabelRef) (e : Unit {0}) (xs : List Line) (w : Read E) → mapped graph_of (mapped (λ l. (ls, l)) (mapped (λ m. (e, m)) (mapped (λ y. (xs, y)) w))) ≡ mapped (λ y. (as_graph (ls, (e, xs)), y)) w
  ended ls e xs (Ok y) = refl
  ended ls e xs (Err s) = refl

  lined : (ls : List LabelRef) (e : Unit {0}) (w : Read (List Line)) → mapped graph_of (mapped (λ l. (ls, l)) (mapped (λ m. (e, m)) (paired w q))) ≡ paired (mapped as_graph (mapped (λ l. (ls, l)) (mapped (λ m. (e, m)) w))) q
  lined ls e (Ok w) = ended ls e w.0 (q w.1)
  lined ls e (Err s) = refl

  headed : (ls : List LabelRef) (w : Read (Unit {0})) → mapped graph_of (mapped (λ l. (ls, l)) (paired w (until_at names p q))) ≡ paired (mapped as_graph (mapped (λ l. (ls, l)) (paired w (lines_at p)))) q
  headed ls (Ok w) = lined ls w.0 (lines_at p w.1)
  headed ls (Err s) = refl

  labelled : (w : Read (List LabelRef)) → mapped graph_of (paired w (seq_at ending_at (until_at names p q))) ≡ paired (mapped as_graph (paired w (seq_at ending_at (lines_at p)))) q
  labelled (Ok w) = headed w.0 (ending_at w.1)
  labelled (Err s) = refl

  parted : (ts : List Token) → long_at ts ≡ seq_at (graph_rest_at p) q ts
  parted ts = labelled (labels_at ts)

module _ {E : Type 0} {L : ℕ → Grammar Line} {M : ℕ → Grammar E} {G : Set} {D : E → Set} (n : ℕ) (free : apart G names ≡ true) where
  pub graph_rest_law : Law L n names none → Law M n G D → Law (λ m. graph_rest (M m) (L m)) n names (λ x. D x.1)
  graph_rest_law l e = as_law graph_of (λ x. D x.1) (seq_law (law_by labels_rule n) (seq_law (ending_law n) (until_law l e (λ a. refl) free (λ a. apart_none G)) (λ a. apart_none (names ++ G))) (λ a. refl)) (λ a. refl)

  pub graph_rest_rule : {p : List Token → Read Line} {q : List Token → Read E} → Rule L n names none p → Rule M n G D q → Rule (λ m. graph_rest (M m) (L m)) n names (λ x. D x.1) (seq_at (graph_rest_at p) q)
  graph_rest_rule {p = p} {q = q} l e = rule_by (λ m. graph_rest (M m) (L m)) n names (λ x. D x.1) (long_at p q) (seq_at (graph_rest_at p) q) (parted p q)
      (as_rule graph_of (λ x. D x.1) (seq_rule (labels_rule n) (seq_rule (ending_rule n) (until_rule l e (λ a. refl) free (λ a. apart_none G)) (λ a. apart_none (names ++ G))) (λ a. refl)) (λ a. refl))

-- ---- lines of each number of levels

-- what can't follow a node
abbrev after : Node → Set
after Ends = []
after Connect = []
after (Condition ns) = just (codes ",")
after (Refer x) = []
after (Frames fs) = just (codes "par")

abbrev node_words : Set
node_words = just (codes "(") ++ (just (codes "connect") ++ (just (codes "condition") ++ just (codes "expr")))

no_seq : (a : Node) → apart (just (codes "seq")) (after a) ≡ true
no_seq Ends = refl
no_seq Connect = refl
no_seq (Condition ns) = refl
no_seq (Refer x) = refl
no_seq (Frames fs) = refl

abbrev FrameRest : ℕ → Grammar Graph
FrameRest n = frame_rest (graph_line n)

abbrev Frame : ℕ → Grammar Graph
Frame = Opened (just (codes "expr")) FrameRest

abbrev Form : ℕ → Grammar Line
Form n = read_as line_of (seq label (behind (just (codes ":")) (line_rest (expression n) (Frame n))))

form_is : (n : ℕ) → Form n ≡ graph_line n
unfolding graph_line
form_is zero = refl
form_is (suc n) = refl

module _ (n : ℕ) where
  node_law : Law Frame n (just (codes "expr")) none → Law (λ m. node_of (expression m) (Frame m)) n node_words after
  node_law f = or_law (as_law (λ p. Refer p.0) after (behind_law (just (codes "(")) (seq_law (expression_law n) (mark_law (codes ")") n) (λ a. refl))) (λ a. refl))
      (or_law (as_law (λ t. Connect) after (mark_law (codes "connect") n) (λ a. refl)) (or_law (as_law Condition after (behind_law (just (codes "condition")) (name_list_law n)) (λ a. refl))
      (as_law (λ fs. Frames (graphs fs)) after (separated_law (codes "par") refl f) (λ a. refl)) refl) refl) refl

  line_law : Law Frame n (just (codes "expr")) none → Law graph_line n names none
  line_law f = equal_law form_is (as_law line_of none (seq_law (law_by label_rule n) (behind_law (just (codes ":"))
      (or_law (as_law (λ e. (Ends, [])) none (behind_law (just (codes "end")) (ending_law n)) (λ a. refl)) (seq_law (node_law f) (law_by next_rule n) no_seq) refl)) (λ a. refl)) (λ a. refl))

  frame_rest_law : Law graph_line n names none → Law FrameRest n names none
  frame_rest_law l = as_law (λ p. p.0) none (graph_rest_law n refl l (mark_law (codes "endexpr") n)) (λ a. refl)

  node_rule : {f : List Token → Read Graph} → Rule Frame n (just (codes "expr")) none f → Rule (λ m. node_of (expression m) (Frame m)) n node_words after (node_at (expression_at n) f)
  node_rule f = or_rule (as_rule (λ p. Refer p.0) after (behind_rule (just (codes "(")) (codes "(") refl (seq_rule (expression_rule n) (mark_rule (codes ")") refl n) (λ a. refl))) (λ a. refl))
      (or_rule (as_rule (λ t. Connect) after (mark_rule (codes "connect") refl n) (λ a. refl)) (or_rule (as_rule Condition after (behind_rule (just (codes "condition")) (codes "condition") refl (name_list_rule n)) (λ a. refl))
      (as_rule (λ fs. Frames (graphs fs)) after (separated_rule (codes "par") refl refl f) (λ a. refl)) refl) refl) refl

  line_rule : {f : List Token → Read Graph} → Rule Frame n (just (codes "expr")) none f
      → Rule graph_line n names none (map_at line_of (seq_at label_at (behind_at (just (codes ":")) (line_rest_at (expression_at n) f))))
  line_rule f = equal_rule form_is (as_rule line_of none (seq_rule (label_rule n) (behind_rule (just (codes ":")) (codes ":") refl
      (or_rule (as_rule (λ e. (Ends, [])) none (behind_rule (just (codes "end")) (codes "end") refl (ending_rule n)) (λ a. refl)) (seq_rule (node_rule f) (next_rule n) no_seq) refl)) (λ a. refl)) (λ a. refl))

  frame_rest_rule : {p : List Token → Read Line} → Rule graph_line n names none p → Rule FrameRest n names none (frame_rest_at p)
  frame_rest_rule l = as_rule (λ p. p.0) none (graph_rest_rule n refl l (mark_rule (codes "endexpr") refl n)) (λ a. refl)

frame_law : (n : ℕ) → Law Frame n (just (codes "expr")) none
frame_law zero = shut_law (just (codes "expr"))
frame_law (suc n) = inner_law (just (codes "expr")) (frame_rest_law n (line_law n (frame_law n)))

pub graph_line_law : (n : ℕ) → Law graph_line n names none
graph_line_law n = line_law n (frame_law n)

-- a frame without lines
abbrev a_label : LabelRef
a_label = label_of (codes "a", first_place)

rest_word : Word FrameRest
rest_word = record {
  more = token_of (codes "a") ∷ token_of (codes ";") ∷ token_of (codes "endexpr") ∷ [];
  value = graph (a_label ∷ []) no_lines;
  holds = (
    (graph (a_label ∷ []) no_lines, codes "endexpr"),
    (
      (a_label ∷ [], (tt, ([], codes "endexpr"))),
      (
        token_of (codes "a") ∷ [],
        token_of (codes ";") ∷ token_of (codes "endexpr") ∷ [],
        refl,
        ((a_label, []), (token_of (codes "a") ∷ [], [], refl, ((codes "a", first_place), (token_of (codes "a"), (refl, refl), refl), refl), refl), refl),
        (
          token_of (codes ";") ∷ [],
          token_of (codes "endexpr") ∷ [],
          refl,
          ((tt, codes ";"), ((None, codes ";"), inr (codes ";", (token_of (codes ";"), (refl, refl), refl), refl), refl), refl),
          ([], token_of (codes "endexpr") ∷ [], refl, refl, (token_of (codes "endexpr"), (refl, refl), refl)),
        ),
      ),
      refl,
    ),
    refl,
  );
}

pub graph_line_rule : (n : ℕ) → Rule graph_line n names none (graph_line_at n)
unfolding graph_line_at
graph_line_rule zero = line_rule zero (shut_rule (just (codes "expr")) (codes "expr") refl (λ m. frame_rest_law m (graph_line_law m)) rest_word)
graph_line_rule (suc n) = line_rule (suc n) (inner_rule (just (codes "expr")) (codes "expr") refl (frame_rest_rule n (graph_line_rule n)))

-- ---- the graph of a chart

module _ {A B : Type 0} (s : Set) (p : List Token → Read A) (q : List Token → Read B) where
  dropped_first : (t : Token) (a : A) (w : Read B) → mapped (λ (x : Token × (A × B)). x.1) (mapped (λ l. (t, l)) (mapped (λ b. (a, b)) w)) ≡ mapped (λ b. (a, b)) w
  dropped_first t a (Ok b) = refl
  dropped_first t a (Err e) = refl

  dropped_word : (t : Token) (w : Read A) → mapped (λ (x : Token × (A × B)). x.1) (mapped (λ l. (t, l)) (paired w q)) ≡ paired (mapped (λ (x : Token × A). x.1) (mapped (λ a. (t, a)) w)) q
  dropped_word t (Ok a) = dropped_first t a.0 (q a.1)
  dropped_word t (Err e) = refl

  behind_word : (w : Read Token) → mapped (λ (x : Token × (A × B)). x.1) (paired w (seq_at p q)) ≡ paired (mapped (λ (x : Token × A). x.1) (paired w p)) q
  behind_word (Ok t) = dropped_word t.0 (p t.1)
  behind_word (Err e) = refl

  behind_pair : (ts : List Token) → behind_at s (seq_at p q) ts ≡ seq_at (behind_at s p) q ts
  behind_pair ts = behind_word (word_at s ts)

module _ {E : Type 0} {M : ℕ → Grammar E} {G : Set} {D : E → Set} (n : ℕ) (free : apart G names ≡ true) where
  pub chart_graph_law : Law M n G D → Law (λ m. chart_graph m (M m)) n (just (codes "expr")) (λ x. D x.1)
  chart_graph_law e = behind_law (just (codes "expr")) (graph_rest_law n free (graph_line_law n) e)

  -- a graph and what ends it are read one after the other
  pub chart_graph_rule : {q : List Token → Read E} → Rule M n G D q → Rule (λ m. chart_graph m (M m)) n (just (codes "expr")) (λ x. D x.1) (seq_at (chart_graph_at n) q)
  chart_graph_rule {q = q} e = rule_by (λ m. chart_graph m (M m)) n (just (codes "expr")) (λ x. D x.1) (behind_at (just (codes "expr")) (seq_at (graph_rest_at (graph_line_at n)) q))
      (seq_at (chart_graph_at n) q) (behind_pair (just (codes "expr")) (graph_rest_at (graph_line_at n)) q)
      (behind_rule (just (codes "expr")) (codes "expr") refl (graph_rest_rule n free (graph_line_rule n) e))
