use Rattle.std.proofs.Common.{◌≡◌, ◌∙◌, ap, sym, subst, arith, length, inl, inr, ℕ}
use Rattle.chart_term.specs.NormalForms.{only}
use Rattle.chart_term.specs.Tables.{net_of, node_of, nodes_of}
use Rattle.chart_term.specs.Terms.{Tree}
use Rattle.hmsc_graph.specs.Nets.{size_of}
use Rattle.term_permission.specs.Ready.{IsReady}
use Rattle.term_step.proofs.Descending.{alone-block}
use Rattle.term_permission.proofs.NodeTerms.{node-is, sizes-are}
use Rattle.term_step.proofs.Passes.{node-lacks}
use Rattle.term_step.proofs.Unreached.{node-or}
use Rattle.term_step.specs.Reaching.{IsLeftOut}
use Rattle.term_laws.specs.Permission.{kept_of, permit, permits_of}
use Rattle.term_step.proofs.nodes.node_of.Goals as goal

pub node-term-requires-clause-node : goal.node-term-requires-clause-node
node-term-requires-clause-node c = omega (arith, c.node_at-node.ensures, sizes-are c.args.nets.now.tables c.requires.tables c.args.way.net c.requires.net, c.requires.index)

pub permit-requires-clause-term : goal.permit-requires-clause-term
permit-requires-clause-term c =
    let w = c.args.nets.now.tables in
    let sized : size_of (net_of w c.args.way.net) ≡ length (nodes_of w c.args.way.net) = sizes-are w c.requires.tables c.args.way.net c.requires.net in
    let i = node-is w c.requires.tables c.args.way.net c.args.index c.requires.net (omega (arith, c.requires.index)) in
    subst (λ (y : Tree). IsReady w y) (sym (c.node-term.ensures ∙ ap (node_of w c.args.way.net) c.node_at-node.ensures)) i.ready

pub returns-then-not-may_reach : goal.returns-then-not-may_reach
returns-then-not-may_reach c = inl (subst (λ (m : ℕ). IsLeftOut c.args.reached.now m) c.node_at-node.ensures (c.may_reach.ensures c.if-not-may_reach.true))

pub returns-then-not-may_have : goal.returns-then-not-may_have
returns-then-not-may_have c =
    let w = c.args.nets.now.tables in
    let sized : size_of (net_of w c.args.way.net) ≡ length (nodes_of w c.args.way.net) = sizes-are w c.requires.tables c.args.way.net c.requires.net in
    let i = node-is w c.requires.tables c.args.way.net c.args.index c.requires.net (omega (arith, c.requires.index)) in
    inr (node-lacks w c.args.label c.args.way.net c.args.index c.args.way.own.now.instances c.node-term.result.now (c.may_have.ensures c.if-not-may_have.true)
    (i.kept c.args.way.own.now.instances ∙ ap (permit (permits_of w) (only c.args.way.own.now.instances)) (sym (c.node-term.ensures ∙ ap (node_of w c.args.way.net) c.node_at-node.ensures))))

pub returns : goal.returns
returns c =
    let w = c.args.nets.now.tables in
    let sized : size_of (net_of w c.args.way.net) ≡ length (nodes_of w c.args.way.net) = sizes-are w c.requires.tables c.args.way.net c.requires.net in
    let i = node-is w c.requires.tables c.args.way.net c.args.index c.requires.net (omega (arith, c.requires.index)) in
    let own = alone-block c.args.way.own.now.instances c.in_ok-own.own c.empty.result c.in_ok-own.ensures c.empty.ensures in
    let node : c.node-term.result.now ≡ node_of w c.args.way.net c.args.index = c.node-term.ensures ∙ ap (node_of w c.args.way.net) c.node_at-node.ensures in
    node-or c.args.label c.args.reached.now c.args.index (kept_of w c.args.way.net c.args.index c.args.way.own.now.instances) c.in_ok-left.left (c.in_ok-left.ensures.left ∙ ((λ j. permit (permits_of w) (own j) (node j)) ∙ sym (i.kept c.args.way.own.now.instances)))
