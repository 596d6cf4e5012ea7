use Rattle.std.proofs.Common.{◌≡◌, rules, subst, sym}
use Rattle.hmsc_graph.specs.Shapes.{IsFaulty}
use Rattle.hmsc_graph.specs.declared.shape.Shape.{Shape}
use Rattle.msc_tree.specs.declared.graph.RawGraph.{out-RawGraph}
use Rattle.graph_rules.proofs.GraphFacts.{endless_here, few_lines}
use Rattle.graph_rules.proofs.ends.endless_in.Goals as goal

pub stuck_nodes-requires-clause-labelled : goal.stuck_nodes-requires-clause-labelled
stuck_nodes-requires-clause-labelled c = λ place h. c.requires.labelled place (subst (λ (s : Shape). IsFaulty s place) c.in_ok-shape.ensures h)

pub first_stuck-requires : goal.first_stuck-requires
first_stuck-requires c =
    let all : c.as_slice.result.now ≡ (out-RawGraph c.args.graph.now).lines.items = search rules in
    few_lines c.args.graph.now c.as_slice.result.now all c.requires.few

pub returns : goal.returns
returns c =
    let all : c.as_slice.result.now ≡ (out-RawGraph c.args.graph.now).lines.items = search rules in
    endless_here c.args.graph.now c.in_ok-shape.shape c.as_slice.result.now c.in_ok-stuck.stuck.nodes c.first_stuck.result c.in_ok-shape.ensures all c.in_ok-stuck.ensures c.first_stuck.ensures
