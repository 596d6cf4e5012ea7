use Rattle.std.proofs.Common.{◌≡◌, rules}
use Rattle.msc_tree.specs.declared.graph.RawGraph.{out-RawGraph}
use Rattle.graph_rules.proofs.GraphFacts.{further_here}
use Rattle.graph_rules.proofs.lines.further_in.Goals as goal

pub returns : goal.returns
returns c =
    let all : c.as_slice.result.now ≡ (out-RawGraph c.args.graph.now).lines.items = search rules in
    further_here c.args.graph.now c.as_slice.result.now c.above_limit.result all c.above_limit.ensures
