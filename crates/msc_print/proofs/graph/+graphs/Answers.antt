use Rattle.std.proofs.Common.{map}
use Rattle.msc_tree.specs.declared.graph.RawGraph.{out-RawGraph}
use Rattle.msc_tree.specs.declared.graph.RawLine.{out-RawLine}
use Rattle.msc_tree.specs.Graphs.{lines}
use Rattle.msc_tree.specs.Views.{line_view, node_view}
use Rattle.msc_print.proofs.Endings.{at_ok, graph_done, line_done, graph_view_is, line_view_is}
use Rattle.msc_print.proofs.graph.+graphs.Goals as goal

pub graph-returns : goal.graph-returns
graph-returns t c =
    let g = out-RawGraph c.args.graph.now in
    at_ok c.lines.result _ _ c.lines.ensures (λ e.
    rw (e, c.in_ok-end.ensures, c.in_ok-labels.ensures, c.in_ok-word.ensures, c.as_slice.ensures, c.as_slice-2.ensures.value, graph_view_is c.args.graph.now) (graph_done c.args.page.now g.starts (lines (map line_view g.lines.items))))

pub line-returns : goal.line-returns
line-returns t c =
    let l = out-RawLine c.args.line.now in
    at_ok c.next.result _ _ c.next.ensures (λ e.
    rw (e, c.in_ok-node.ensures, c.in_ok-word.ensures, c.in_ok-put.ensures, c.bytes.ensures.bytes, c.as_slice.ensures, line_view_is c.args.line.now) (line_done c.args.page.now l.label l.place (node_view l.node) l.next))
