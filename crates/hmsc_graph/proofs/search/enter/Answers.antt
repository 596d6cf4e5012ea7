use Rattle.std.proofs.Common.{◌+◌, ◌<◌, ◌∙◌, arith, take, subst, sym, List, ℕ, get_or}
use Rattle.std.proofs.lemmas.Bool.{true≢false}
use Rattle.std.proofs.lemmas.List.{take_more, take_all}
use Rattle.hmsc_graph.specs.Searches.{HasEntered}
use Rattle.hmsc_graph.proofs.MemberFacts.{in_at}
use Rattle.hmsc_graph.proofs.SearchFacts.{entered_none, entered_known, entered_waiting}
use Rattle.hmsc_graph.proofs.search.enter.Goals as goal
use Rattle.hmsc_graph.proofs.search.enter.Goals.{then-not-has+in_ok-push, else-not-has}

pub loop-node-init : goal.loop-node-init
loop-node-init c = entered_none c.args.reached.now c.args.waiting.now.items

pub add-requires : goal.add-requires
add-requires c =
    let below : get_or c.args.nodes.now c.loop-node.node-index 0 < c.args.reached.now.size = c.requires _ (in_at c.args.nodes.now c.loop-node.node-index c.loop-node-test.true) in
    omega (arith, below, c.loop-node.invariant.size)

pub loop-node-preserved : goal.loop-node-preserved
loop-node-preserved c =
    let ns = take c.loop-node.node-index c.args.nodes.now in
    let x = get_or c.args.nodes.now c.loop-node.node-index 0 in
    let is = take_more c.args.nodes.now c.loop-node.node-index 0 c.loop-node-test.true in
    let below : x < c.args.reached.now.size = c.requires x (in_at c.args.nodes.now c.loop-node.node-index c.loop-node-test.true) in
    let low : x < c.loop-node.reached.size = omega (arith, below, c.loop-node.invariant.size) in
    let more = take (c.loop-node.node-index + 1) c.args.nodes.now in
    elim c.if-not-has.branch [
      | then-not-has+in_ok-push w ↦
          rw (w.reached-is, w.waiting-is) (entered_waiting ns more x c.args.reached.now c.args.waiting.now.items c.loop-node.reached c.loop-node.waiting.items is c.loop-node.invariant
          w.add.new.self w.add.ensures.size w.add.ensures.nodes (λ h. true≢false (sym (c.has.ensures.has.1 h) ∙ w.if-not-has.true)) low
          w.push.new.self.items w.in_ok-push.ensures.items)
      | else-not-has w ↦
          rw (w.reached-is, w.waiting-is) (entered_known ns more x c.args.reached.now c.args.waiting.now.items c.loop-node.reached c.loop-node.waiting.items is c.loop-node.invariant
          (c.has.ensures.has.0 w.if-not-has.false))
    ]

pub returns : goal.returns
returns c = subst (λ (l : List ℕ). HasEntered l c.args.reached.now c.args.waiting.now.items c.loop-node.reached c.loop-node.waiting.items)
    (take_all c.loop-node.node-index c.args.nodes.now c.loop-node-test.false) c.loop-node.invariant
