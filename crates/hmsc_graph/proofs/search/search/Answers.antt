use Rattle.std.proofs.Common.{◌≡◌, ◌<◌, [], ◌∙◌, ℕ, Bool, false, List, ap, refl, arith, subst, sym, length, get_or}
use Rattle.std.proofs.lemmas.Bool.{true≢false}
use Rattle.std.proofs.lemmas.List.{length-replicate}
use Rattle.bit_sets.specs.NodeSets.{NodeSetValue}
use Rattle.hmsc_graph.specs.Reversals.{way_of}
use Rattle.hmsc_graph.specs.Graphs.{Net, At, Start, WalkThrough, To, behind}
use Rattle.hmsc_graph.specs.Nets.{size_of}
use Rattle.hmsc_graph.specs.Searches.{HasEntered, IsSearch}
use Rattle.hmsc_graph.proofs.SearchFacts.{search_on, search_past, search_ended, due_below}
use Rattle.msc_base.specs.Lists.{IsIn}
use Rattle.hmsc_graph.proofs.EdgeFacts.{get_default}
use Rattle.hmsc_graph.proofs.search.search.Goals as goal

pub bounds-next-node : goal.bounds-next-node
bounds-next-node c =
    let below : c.in-Some.node < size_of (way_of c.args.firsts.now c.args.next.now) =
    due_below (way_of c.args.firsts.now c.args.next.now) c.args.allowed.now.nodes Start c.loop-node.search.reached c.loop-node.search.waiting.items c.next.new.self.waiting.items c.in-Some.node c.in-Some.ensures.node c.loop-node.invariant.search c.requires.net in
    omega (arith, below, length-replicate {A = Bool} (length c.args.next.now) false)

pub go_on-requires : goal.go_on-requires
go_on-requires c = λ m i.
    let node : c.in-Some.node < size_of (way_of c.args.firsts.now c.args.next.now) =
    due_below (way_of c.args.firsts.now c.args.next.now) c.args.allowed.now.nodes Start c.loop-node.search.reached c.loop-node.search.waiting.items c.next.new.self.waiting.items c.in-Some.node c.in-Some.ensures.node c.loop-node.invariant.search c.requires.net in
    let at : c.in-Some.node < length c.args.next.now = omega (arith, node, length-replicate {A = Bool} (length c.args.next.now) false) in
    let here : c.as_slice.result.now ≡ get_or c.args.next.now c.in-Some.node [] = c.as_slice.ensures ∙ c.index-next-node.is ∙ get_default c.args.next.now c.in-Some.node c.index-next-node.result at in
    let below : m < size_of (way_of c.args.firsts.now c.args.next.now) = c.requires.net.next_below c.in-Some.node m (subst (λ (l : List ℕ). IsIn m l) here i) in
    let size : c.next.new.self.reached.size ≡ c.loop-node.search.reached.size = ap (λ (s : NodeSetValue). s.size) c.in-Some.ensures.reached in
    omega (arith, below, size, c.loop-node.invariant.size, length-replicate {A = Bool} (length c.args.next.now) false)

pub loop-node-preserved-in-Continue-branch-2 : goal.loop-node-preserved-in-Continue-branch-2
loop-node-preserved-in-Continue-branch-2 c =
    let g : Net = way_of c.args.firsts.now c.args.next.now in
    let node : c.in-Some.node < size_of g =
    due_below g c.args.allowed.now.nodes Start c.loop-node.search.reached c.loop-node.search.waiting.items c.next.new.self.waiting.items c.in-Some.node c.in-Some.ensures.node c.loop-node.invariant.search c.requires.net in
    let at : c.in-Some.node < length c.args.next.now = omega (arith, node, length-replicate {A = Bool} (length c.args.next.now) false) in
    let here : c.as_slice.result.now ≡ get_or c.args.next.now c.in-Some.node [] = c.as_slice.ensures ∙ c.index-next-node.is ∙ get_default c.args.next.now c.in-Some.node c.index-next-node.result at in
    let entered : HasEntered (behind g (At c.in-Some.node)) c.loop-node.search.reached c.next.new.self.waiting.items c.go_on.new.self.reached c.go_on.new.self.waiting.items =
    subst (λ (l : List ℕ). HasEntered l c.loop-node.search.reached c.next.new.self.waiting.items c.go_on.new.self.reached c.go_on.new.self.waiting.items) here
    (subst (λ (s : NodeSetValue). HasEntered c.as_slice.result.now s c.next.new.self.waiting.items c.go_on.new.self.reached c.go_on.new.self.waiting.items) c.in-Some.ensures.reached c.in_ok-go_on.ensures) in
    record {
      size = entered.size ∙ c.loop-node.invariant.size;
      search = search_on g c.args.allowed.now.nodes Start c.loop-node.search.reached c.loop-node.search.waiting.items c.next.new.self.waiting.items c.in-Some.node c.in-Some.ensures.node c.loop-node.invariant.search
          c.go_on.new.self.reached c.go_on.new.self.waiting.items (c.has.ensures.has.0 c.if-has.true) entered;
    }

pub loop-node-preserved : goal.loop-node-preserved
loop-node-preserved c =
    let g : Net = way_of c.args.firsts.now c.args.next.now in
    record {
      size = ap (λ (s : NodeSetValue). s.size) c.in-Some.ensures.reached ∙ c.loop-node.invariant.size;
      search =
          subst (λ (s : NodeSetValue). IsSearch g c.args.allowed.now.nodes Start s.nodes c.next.new.self.waiting.items) (sym c.in-Some.ensures.reached)
          (search_past g c.args.allowed.now.nodes Start c.loop-node.search.reached c.loop-node.search.waiting.items c.next.new.self.waiting.items c.in-Some.node c.in-Some.ensures.node c.loop-node.invariant.search
          (λ i. true≢false (sym (c.has.ensures.has.1 i) ∙ c.if-has.false)));
    }

pub returns-clause-nodes : goal.returns-clause-nodes
returns-clause-nodes c =
    let g : Net = way_of c.args.firsts.now c.args.next.now in
    subst (λ (s : NodeSetValue). (m : ℕ) → (IsIn m s.nodes → WalkThrough g c.args.allowed.now.nodes Start (To m)) × (WalkThrough g c.args.allowed.now.nodes Start (To m) → IsIn m s.nodes)) (sym c.in_default.ensures.reached)
    (search_ended g c.args.allowed.now.nodes Start c.loop-node.search.reached.nodes c.loop-node.search.waiting.items (c.in_default.ensures.none refl) c.loop-node.invariant.search)
