use Rattle.std.proofs.Common.{◌≡◌, ◌<◌, ◌+◌, ◌++◌, ◌∙◌, [], List, ℕ, length, get_or, take, drop, arith, rules, sym, ap, subst}
use Rattle.std.proofs.lemmas.List.{take_at}
use Rattle.msc_base.specs.Lists.{IsIn}
use Rattle.hmsc_graph.specs.Reversals.{AreEdgesBack, HasEdges}
use Rattle.hmsc_graph.proofs.EdgeFacts.{get_default, edges_back_more}
use Rattle.hmsc_graph.proofs.net.edges_back.Goals as goal

pub add_edges-requires : goal.add_edges-requires
add_edges-requires c = λ m i.
    let here : c.as_slice.result.now ≡ get_or c.args.next.now c.loop-node.node [] = c.as_slice.ensures ∙ c.index-next-node.is ∙ get_default c.args.next.now c.loop-node.node c.index-next-node.result (omega arith) in
    let below : m < length c.args.next.now = c.requires.below c.loop-node.node m (subst (λ (l : List ℕ). IsIn m l) here i) in
    let each : length c.deref_mut.result.now ≡ length c.loop-node.back.items = ap length c.deref_mut.ensures.value in
    omega (arith, below, each, c.loop-node.invariant.each)

pub loop-node-preserved : goal.loop-node-preserved
loop-node-preserved c =
    let here : c.as_slice.result.now ≡ get_or c.args.next.now c.loop-node.node [] = c.as_slice.ensures ∙ c.index-next-node.is ∙ get_default c.args.next.now c.loop-node.node c.index-next-node.result (omega arith) in
    let len : c.loop-node.back.len ≡ length c.loop-node.back.items = search rules in
    let each : length c.add_edges.new.back ≡ length c.loop-node.back.items = c.in_ok-add_edges.ensures.each ∙ ap length c.deref_mut.ensures.value in
    let is : take c.loop-node.back.len (c.add_edges.new.back ++ drop (length c.add_edges.new.back) c.loop-node.back.items) ≡ c.add_edges.new.back =
    take_at c.add_edges.new.back (drop (length c.add_edges.new.back) c.loop-node.back.items) c.loop-node.back.len (sym (len ∙ sym each)) in
    let has : HasEdges c.loop-node.back.items c.loop-node.node (get_or c.args.next.now c.loop-node.node []) c.add_edges.new.back =
    rw (← c.deref_mut.ensures.value, ← here) c.in_ok-add_edges.ensures in
    record {
      each = ap length is ∙ each ∙ c.loop-node.invariant.each;
      edges = subst (λ (l : List (List ℕ)). AreEdgesBack c.args.next.now (c.loop-node.node + 1) l) (sym is)
          (edges_back_more c.args.next.now c.loop-node.node c.loop-node.back.items c.add_edges.new.back c.loop-node.invariant.edges has);
    }
