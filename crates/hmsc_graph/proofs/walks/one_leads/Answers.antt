use Rattle.std.proofs.Common.{◌+◌, get_or, take, refl, ◌≡◌, true}
use Rattle.std.proofs.lemmas.List.{take_more}
use Rattle.hmsc_graph.specs.Spots.{goal_of}
use Rattle.hmsc_graph.proofs.MemberFacts.{in_at}
use Rattle.hmsc_graph.proofs.EndFacts.{no_lead_more}
use Rattle.hmsc_graph.proofs.walks.one_leads.Goals as goal

pub leads_on-requires : goal.leads_on-requires
leads_on-requires c = c.requires (get_or c.args.nodes.now c.loop-node.node-index 0) (in_at c.args.nodes.now c.loop-node.node-index c.loop-node-test.true)

pub returns-then-leads_on : goal.returns-then-leads_on
returns-then-leads_on c = (λ h. (get_or c.args.nodes.now c.loop-node.node-index 0, in_at c.args.nodes.now c.loop-node.node-index c.loop-node-test.true, c.leads_on.ensures.0 c.if-leads_on.true), λ h. refl)

pub loop-node-preserved : goal.loop-node-preserved
loop-node-preserved c =
    no_lead_more c.args.net.now (take c.loop-node.node-index c.args.nodes.now) (take (c.loop-node.node-index + 1) c.args.nodes.now) (get_or c.args.nodes.now c.loop-node.node-index 0)
    c.args.allowed.now.nodes c.args.leading.now.nodes (goal_of c.args.to)
    (take_more c.args.nodes.now c.loop-node.node-index 0 c.loop-node-test.true) c.loop-node.invariant (λ h. let q : c.leads_on.result ≡ true = c.leads_on.ensures.1 h in cc)
