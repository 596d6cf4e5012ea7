use Rattle.std.proofs.Common.{ℕ, [], ◌<◌, ◌≡◌, ◌↔◌, ◌∙◌, subst, sym, arith, get_or, IfOk}
use Rattle.msc_base.specs.Lists.{IsIn}
use Rattle.hmsc_graph.specs.Graphs.{At, To, End}
use Rattle.hmsc_graph.specs.Nets.{size_of}
use Rattle.hmsc_graph.specs.Reversals.{AreBefore}
use Rattle.hmsc_graph.specs.Spots.{goal_of, IsGoalBelow}
use Rattle.hmsc_graph.specs.Walks.{Leads}
use Rattle.hmsc_graph.specs.declared.spot.Goal.{Goal}
use Rattle.hmsc_graph.proofs.EdgeFacts.{get_default, way_back}
use Rattle.hmsc_graph.proofs.EndFacts.{before_node, before_below, found_back}
use Rattle.hmsc_graph.proofs.walks.reach_back.Goals as goal

pub search-requires-clause-net : goal.search-requires-clause-net
search-requires-clause-net c =
    let at : c.in-Node.node < size_of c.args.net.now = subst (IsGoalBelow (size_of c.args.net.now)) c.in-Node.is c.requires.to in
    let here : c.as_slice.result.now ≡ get_or c.back-back.result.now c.in-Node.node [] = c.as_slice.ensures ∙ c.index-back-node.is ∙ get_default c.back-back.result.now c.in-Node.node c.index-back-node.result (omega (arith, at, c.back-back.ensures.each)) in
    let are : AreBefore c.args.net.now (To c.in-Node.node) c.as_slice.result.now = subst (AreBefore c.args.net.now (To c.in-Node.node)) (sym here) (before_node c.args.net.now c.back-back.result.now c.in-Node.node c.back-back.ensures.net c.back-back.ensures.edges) in
    way_back c.args.net.now c.as_slice.result.now c.back-back.result.now c.back-back.ensures.net (before_below c.args.net.now (To c.in-Node.node) c.as_slice.result.now c.back-back.ensures.net are) c.back-back.ensures.each c.back-back.ensures.edges

pub search-requires-in-End-clause-net : goal.search-requires-in-End-clause-net
search-requires-in-End-clause-net c = way_back c.args.net.now c.before_ends.result.now c.back.result.now c.back.ensures.net (before_below c.args.net.now End c.before_ends.result.now c.back.ensures.net c.before_ends.ensures) c.back.ensures.each c.back.ensures.edges

pub returns-in-Node-clause-nodes : goal.returns-in-Node-clause-nodes
returns-in-Node-clause-nodes c =
    let at : c.in-Node.node < size_of c.args.net.now = subst (IsGoalBelow (size_of c.args.net.now)) c.in-Node.is c.requires.to in
    let here : c.as_slice.result.now ≡ get_or c.back-back.result.now c.in-Node.node [] = c.as_slice.ensures ∙ c.index-back-node.is ∙ get_default c.back-back.result.now c.in-Node.node c.index-back-node.result (omega (arith, at, c.back-back.ensures.each)) in
    let are : AreBefore c.args.net.now (To c.in-Node.node) c.as_slice.result.now = subst (AreBefore c.args.net.now (To c.in-Node.node)) (sym here) (before_node c.args.net.now c.back-back.result.now c.in-Node.node c.back-back.ensures.net c.back-back.ensures.edges) in
    subst (λ (to : Goal). IfOk c.search.result (λ leading. (m : ℕ) → m < size_of c.args.net.now → IsIn m leading.nodes ↔ Leads c.args.net.now c.args.allowed.now.nodes (At m) (goal_of to))) (sym c.in-Node.is)
    (found_back c.args.net.now c.as_slice.result.now c.back-back.result.now c.args.allowed.now.nodes (To c.in-Node.node) c.search.result c.back-back.ensures.net c.back-back.ensures.edges are c.search.ensures.nodes)

pub returns-in-End-clause-nodes : goal.returns-in-End-clause-nodes
returns-in-End-clause-nodes c =
    subst (λ (to : Goal). IfOk c.search-in-End.result (λ leading. (m : ℕ) → m < size_of c.args.net.now → IsIn m leading.nodes ↔ Leads c.args.net.now c.args.allowed.now.nodes (At m) (goal_of to))) (sym c.in-End.is)
    (found_back c.args.net.now c.before_ends.result.now c.back.result.now c.args.allowed.now.nodes End c.search-in-End.result c.back.ensures.net c.back.ensures.edges c.before_ends.ensures c.search-in-End.ensures.nodes)
