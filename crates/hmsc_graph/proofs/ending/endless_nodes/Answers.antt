use Rattle.std.proofs.Common.{◌<◌, ◌↔◌, ℕ, arith, subst}
use Rattle.hmsc_graph.specs.Nets.{size_of}
use Rattle.hmsc_graph.specs.Searches.{IsLost}
use Rattle.hmsc_graph.specs.Walks.{IsEndless}
use Rattle.hmsc_graph.proofs.EndFacts.{all_endless}
use Rattle.msc_base.specs.Lists.{IsIn}
use Rattle.hmsc_graph.proofs.ending.endless_nodes.Goals as goal

pub returns-clause-nodes : goal.returns-clause-nodes
returns-clause-nodes c = λ m.
    let each : (n : ℕ) → n < size_of c.args.net.now → IsIn n c.in_ok-all.all.nodes = λ n below. c.in_ok-all.ensures.full n (omega (arith, below, c.in_ok-all.ensures.size, c.size.ensures.size)) in
    let are : IsLost (size_of c.args.net.now) c.in_ok-reached.reached.nodes c.in_ok-ending.ending.nodes m ↔ IsEndless c.args.net.now m =
    all_endless c.args.net.now c.in_ok-all.all.nodes c.in_ok-reached.reached.nodes c.in_ok-ending.ending.nodes c.size.ensures.net each c.in_ok-reached.ensures.nodes c.in_ok-ending.ensures m in
    let found : IsIn m c.in_ok-lost.lost.nodes ↔ IsLost (size_of c.args.net.now) c.in_ok-reached.reached.nodes c.in_ok-ending.ending.nodes m =
    subst (λ (n : ℕ). IsIn m c.in_ok-lost.lost.nodes ↔ IsLost n c.in_ok-reached.reached.nodes c.in_ok-ending.ending.nodes m) c.size-2.ensures.size (c.in_ok-lost.ensures.nodes m) in
    (λ i. are.0 (found.0 i), λ e. found.1 (are.1 e))
