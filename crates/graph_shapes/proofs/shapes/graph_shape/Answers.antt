use Rattle.std.proofs.Common.{◌≡◌, rules}
use Rattle.msc_tree.specs.declared.graph.RawGraph.{out-RawGraph}
use Rattle.graph_shapes.proofs.ShapeViews.{shape_end, shape_step}
use Rattle.graph_shapes.proofs.shapes.graph_shape.Goals as goal

pub loop-line-preserved : goal.loop-line-preserved
loop-line-preserved c =
    shape_step c.as_slice-line-items.result.now c.loop-line.line-index c.line-item.result c.loop-line.lines c.push.new.self c.in_ok-made.made c.loop-line-test.true c.line-item.is c.loop-line.invariant c.in_ok-made.ensures c.in_ok-push.ensures.ok

pub returns : goal.returns
returns c =
    let g = out-RawGraph c.args.graph.now in
    let all : c.as_slice-line-items.result.now ≡ g.lines.items = search rules in
    let starts : c.in_ok-starts.starts ≡ g.starts = search rules in
    shape_end c.args.graph.now c.in_ok-starts.starts c.loop-line.lines c.loop-line.line-index c.as_slice-line-items.result.now all starts c.loop-line-test.false c.loop-line.invariant
