use Rattle.std.proofs.Common.{ℕ, List, ◌≡◌, ◌↔◌, subst, sym, IfOk, Result, Ok, Err}
use Rattle.bit_sets.specs.NodeSets.{NodeSetValue}
use Rattle.msc_base.specs.Lists.{IsIn}
use Rattle.hmsc_graph.specs.Reversals.{way_of}
use Rattle.hmsc_graph.specs.Graphs.{Net, Spot, Start, To, WalkThrough, behind}
use Rattle.hmsc_graph.specs.Nets.{IsNet}
use Rattle.hmsc_graph.specs.Spots.{spot_of}
use Rattle.hmsc_graph.proofs.EdgeFacts.{walks_on, way_on}
use Rattle.hmsc_graph.proofs.walks.reach.Goals as goal

-- what a search finds, where there is memory
found_on : {E : Type 0} (g : Net) (s : Spot) (firsts : List ℕ) (next : List (List ℕ)) (allowed : List ℕ) (r : Result NodeSetValue E) → firsts ≡ behind g s → next ≡ g.next
    → IfOk r (λ found. (m : ℕ) → IsIn m found.nodes ↔ WalkThrough (way_of firsts next) allowed Start (To m)) → IfOk r (λ found. (m : ℕ) → IsIn m found.nodes ↔ WalkThrough g allowed s (To m))
found_on g s firsts next allowed (Err e) p q exact = tt
found_on g s firsts next allowed (Ok found) p q exact = λ m. (
  (λ i. (walks_on g s allowed m).0 (subst (λ (l : List ℕ). WalkThrough (way_of l g.next) allowed Start (To m)) p (subst (λ (l : List (List ℕ)). WalkThrough (way_of firsts l) allowed Start (To m)) q ((exact m).0 i)))),
  λ w. (exact m).1 (subst (λ (l : List (List ℕ)). WalkThrough (way_of firsts l) allowed Start (To m)) (sym q) (subst (λ (l : List ℕ). WalkThrough (way_of l g.next) allowed Start (To m)) (sym p) ((walks_on g s allowed m).1 w))),
)

pub search-requires-clause-net : goal.search-requires-clause-net
search-requires-clause-net c =
    subst (λ (l : List ℕ). IsNet (way_of l c.next.result.now)) (sym c.behind.ensures.nodes) (subst (λ (l : List (List ℕ)). IsNet (way_of (behind c.args.net.now (spot_of c.args.from)) l)) (sym c.next.ensures.next) (way_on c.args.net.now (spot_of c.args.from) c.next.ensures.net))

pub returns-clause-nodes : goal.returns-clause-nodes
returns-clause-nodes c = found_on c.args.net.now (spot_of c.args.from) c.behind.result.now c.next.result.now c.args.allowed.now.nodes c.search.result c.behind.ensures.nodes c.next.ensures.next c.search.ensures.nodes
