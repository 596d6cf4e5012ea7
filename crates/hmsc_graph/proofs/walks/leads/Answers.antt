use Rattle.std.proofs.Common.{◌≡◌, ap}
use Rattle.hmsc_graph.specs.Graphs.{To, End}
use Rattle.hmsc_graph.specs.Spots.{spot_of, goal_of}
use Rattle.hmsc_graph.proofs.EndFacts.{leads_by_one}
use Rattle.hmsc_graph.proofs.walks.leads.Goals as goal

pub returns-in-Node : goal.returns-in-Node
returns-in-Node c =
    let aim : goal_of c.args.to ≡ To c.in-Node.field-0 = ap goal_of c.in-Node.is in
    leads_by_one c.args.net.now (spot_of c.args.from) (goal_of c.args.to) c.behind.result.now c.args.allowed.now.nodes c.args.leading.now.nodes c.one_leads.result (λ e. cc) c.behind.ensures.net c.behind.ensures.nodes c.requires.leading c.one_leads.ensures

pub returns-in-End : goal.returns-in-End
returns-in-End c =
    let aim : goal_of c.args.to ≡ End = ap goal_of c.in-End.is in
    leads_by_one c.args.net.now (spot_of c.args.from) (goal_of c.args.to) c.behind-in-End.result.now c.args.allowed.now.nodes c.args.leading.now.nodes c.one_leads-in-End.result (λ e. cc) c.behind-in-End.ensures.net c.behind-in-End.ensures.nodes c.requires.leading c.one_leads-in-End.ensures
