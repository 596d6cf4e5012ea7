use Rattle.std.proofs.Common.{◌≡◌, ◌∙◌, ap, sym, subst, arith, length}
use Rattle.chart_term.specs.Tables.{net_of, node_of, nodes_of}
use Rattle.chart_term.specs.Terms.{Tree}
use Rattle.hmsc_graph.specs.Nets.{size_of}
use Rattle.term_permission.specs.Ready.{IsReady}
use Rattle.term_permission.proofs.NodeTerms.{node-is, sizes-are}
use Rattle.term_step.proofs.Descending.{alone-block}
use Rattle.term_laws.specs.Permission.{permit, permits_of}
use Rattle.term_firsts.proofs.children.node_at.Goals as goal

pub node-term-requires-clause-node : goal.node-term-requires-clause-node
node-term-requires-clause-node c = omega (arith, c.number_of-node.ensures, sizes-are c.args.nets.now.tables c.requires.tables c.args.net c.requires.net, c.requires.index)

pub permit-requires-clause-term : goal.permit-requires-clause-term
permit-requires-clause-term c =
    let w = c.args.nets.now.tables in
    let sized : size_of (net_of w c.args.net) ≡ length (nodes_of w c.args.net) = sizes-are w c.requires.tables c.args.net c.requires.net in
    let i = node-is w c.requires.tables c.args.net c.args.index c.requires.net (omega (arith, c.requires.index)) in
    subst (λ (y : Tree). IsReady w y) (sym (c.node-term.ensures ∙ ap (node_of w c.args.net) c.number_of-node.ensures)) i.ready

pub returns : goal.returns
returns c =
    let w = c.args.nets.now.tables in
    let sized : size_of (net_of w c.args.net) ≡ length (nodes_of w c.args.net) = sizes-are w c.requires.tables c.args.net c.requires.net in
    let i = node-is w c.requires.tables c.args.net c.args.index c.requires.net (omega (arith, c.requires.index)) in
    let own = alone-block c.args.own.now.instances c.in_ok-own.own c.empty.result c.in_ok-own.ensures c.empty.ensures in
    let node : c.node-term.result.now ≡ node_of w c.args.net c.args.index = c.node-term.ensures ∙ ap (node_of w c.args.net) c.number_of-node.ensures in
    c.in_ok-left.ensures.left ∙ ((λ j. permit (permits_of w) (own j) (node j)) ∙ sym (i.kept c.args.own.now.instances))
