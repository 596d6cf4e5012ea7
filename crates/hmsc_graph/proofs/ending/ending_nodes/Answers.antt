use Rattle.std.proofs.Common.{◌<◌, ◌≡◌, ◌↔◌, true, ℕ, List, arith, subst, sym}
use Rattle.hmsc_graph.specs.Graphs.{End, arrives}
use Rattle.hmsc_graph.specs.Nets.{IsNet, size_of}
use Rattle.hmsc_graph.specs.Reversals.{way_of}
use Rattle.hmsc_graph.proofs.EdgeFacts.{way_back}
use Rattle.hmsc_graph.proofs.EndFacts.{ends_back}
use Rattle.msc_base.specs.Lists.{IsIn}
use Rattle.hmsc_graph.proofs.ending.ending_nodes.Goals as goal

pub search-requires-clause-net : goal.search-requires-clause-net
search-requires-clause-net c =
    subst (λ (l : List ℕ). IsNet (way_of l c.back.result.now)) (sym c.as_slice.ensures)
    (way_back c.args.net.now c.in_ok-ends.ends c.back.result.now c.back.ensures.net c.in_ok-ends.ensures.below c.back.ensures.each c.back.ensures.edges)

pub returns : goal.returns
returns c =
    let each : (n : ℕ) → n < size_of c.args.net.now → IsIn n c.args.all.now.nodes = λ n below. c.requires.all n (omega (arith, below, c.requires.made)) in
    let starts : (m : ℕ) → IsIn m c.as_slice.result.now ↔ (arrives c.args.net.now End m ≡ true) =
    subst (λ (l : List ℕ). (m : ℕ) → IsIn m l ↔ (arrives c.args.net.now End m ≡ true)) (sym c.as_slice.ensures) c.in_ok-ends.ensures.nodes in
    ends_back c.args.net.now c.as_slice.result.now c.back.result.now c.args.all.now.nodes c.in_ok-ending.ending.nodes c.back.ensures.net c.back.ensures.edges starts each c.in_ok-ending.ensures.nodes
