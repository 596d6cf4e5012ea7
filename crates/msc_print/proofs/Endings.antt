-- Parts that were written piece by piece are written.
use Rattle.std.proofs.Common.{ℕ, ◌≡◌, ◌∙◌, ◌++◌, List, ◌∷◌, map, Result, Ok, Err, sym, ap, codes}
use Rattle.std.specs.Prelude.{OnOk}
use Rattle.msc_base.specs.declared.label.LabelRef.{LabelRef}
use Rattle.msc_base.specs.declared.place.Place.{Place}
use Rattle.msc_tree.specs.declared.chart.Decl.{Decl}
use Rattle.msc_tree.specs.declared.graph.RawGraph.{RawGraph, out-RawGraph, fold_out-RawGraph}
use Rattle.msc_tree.specs.declared.graph.RawLine.{RawLine, out-RawLine, fold_out-RawLine}
use Rattle.msc_tree.specs.declared.statement.RawInline.{RawInline, out-RawInline, fold_out-RawInline}
use Rattle.msc_tree.specs.Statements as held
use Rattle.msc_tree.specs.Views.{graph_view, line_view, node_view, inline_view, operand_view, node_step, graph_step, line_step, form_step, operand_step, statement_step, inline_step, item_step}
use Rattle.msc_tree.specs.Graphs as tree
use Rattle.msc_tree.specs.Graphs.{lines, Lines, Node, graph, line}
use Rattle.msc_tree.specs.Statements.{InlineHead, Inline, Operands, operands}
use Rattle.msc_print.specs.Words.{Words, end_words}
use Rattle.msc_print.specs.GraphWords.{graph_words, label_words, line_words, lines_words, next_words, node_words}
use Rattle.msc_tree.specs.Forms.{form_text}
use Rattle.msc_print.specs.StatementWords.{begun_words, bounds_in, column_words, decl_words, operands_words, what_words}
use Rattle.msc_print.specs.Pages.{Sheet, put, put_all}
use Rattle.msc_print.proofs.Putting.{put_append}

-- what follows at a success
pub at_ok : {T E : Type 0} (r : Result T E) (P Q : Type 0) → OnOk r P → (P → Q) → OnOk r Q
at_ok (Ok v) P Q h f = f h
at_ok (Err e) P Q h f = h

pub graph_done : (s : Sheet) (starts : List LabelRef) (held : Lines) → put_all (put (put_all (put s (codes "expr")) (label_words starts)) (codes ";")) (lines_words held) ≡ put_all s (graph_words (graph starts held))
graph_done s starts held = sym (put_append (put s (codes "expr")) (label_words starts) (codes ";" ∷ lines_words held))

pub line_done : (s : Sheet) (label : List ℕ) (place : Place) (node : Node) (labels : List LabelRef) →
    put_all (put_all (put (put s label) (codes ":")) (node_words node)) (next_words node labels) ≡ put_all s (line_words (line label place node labels))
line_done s label place node labels = sym (put_append (put (put s label) (codes ":")) (node_words node) (next_words node labels))

pub inline_done : (s : Sheet) (h : InlineHead) (held : Operands) →
    put (put (put (put_all (put_all (put_all (put s (form_text h.form)) (bounds_in h.form h.lower h.upper)) (begun_words h.name h.shared)) (operands_words (form_text h.form) held)) (form_text h.form)) (codes "end")) (codes ";")
    ≡ put_all s (what_words (Inline h held))
inline_done s h held =
    let word = form_text h.form in
    let last = word ∷ codes "end" ∷ end_words in
    sym (put_append (put s word) (bounds_in h.form h.lower h.upper ++ begun_words h.name h.shared) (operands_words word held ++ last)
    ∙ ap (λ (t : Sheet). put_all t (operands_words word held ++ last)) (put_append (put s word) (bounds_in h.form h.lower h.upper) (begun_words h.name h.shared))
    ∙ put_append (put_all (put_all (put s word) (bounds_in h.form h.lower h.upper)) (begun_words h.name h.shared)) (operands_words word held) last)

pub column_done : (s : Sheet) (d : Decl) (held : Words) →
    put (put (put_all (put (put_all (put s (codes "instance")) (decl_words d)) (codes ";")) held) (codes "endinstance")) (codes ";") ≡ put_all s (column_words d held)
column_done s d held =
    let last = codes "endinstance" ∷ end_words in
    sym (put_append (put s (codes "instance")) (decl_words d) (codes ";" ∷ (held ++ last))
    ∙ put_append (put (put_all (put s (codes "instance")) (decl_words d)) (codes ";")) held last)

pub graph_view_is : (g : RawGraph) → graph_view g ≡ graph (out-RawGraph g).starts (lines (map line_view (out-RawGraph g).lines.items))
graph_view_is = fold_out-RawGraph tree.Node tree.Graph tree.Line node_step graph_step line_step

pub line_view_is : (l : RawLine) → line_view l ≡ line (out-RawLine l).label (out-RawLine l).place (node_view (out-RawLine l).node) (out-RawLine l).next
line_view_is = fold_out-RawLine tree.Node tree.Graph tree.Line node_step graph_step line_step

pub inline_view_is : (i : RawInline) → inline_view i ≡ Inline (record { form = (out-RawInline i).form; lower = (out-RawInline i).lower; upper = (out-RawInline i).upper; name = (out-RawInline i).name; shared = (out-RawInline i).shared }) (operands (map operand_view (out-RawInline i).operands.items))
inline_view_is = fold_out-RawInline held.Form held.Operand held.Statement held.Form held.Item form_step operand_step statement_step inline_step item_step
