use Rattle.std.proofs.Common.{◌+◌, ◌<◌, ◌∙◌, arith, take, subst, sym, List, ℕ, get_or}
use Rattle.std.proofs.lemmas.Bool.{true≢false}
use Rattle.std.proofs.lemmas.List.{take_more, take_all}
use Rattle.hmsc_graph.specs.Steps.{HaveMet}
use Rattle.hmsc_graph.proofs.MemberFacts.{in_at}
use Rattle.hmsc_graph.proofs.WayFacts.{met_none, met_known, met_new}
use Rattle.hmsc_graph.proofs.ways.meet.Goals as goal
use Rattle.hmsc_graph.proofs.ways.meet.Goals.{then-not-has+in_ok-push, else-not-has}

pub loop-node-init : goal.loop-node-init
loop-node-init c = met_none c.args.before c.args.met.now c.args.steps.now

pub add-requires : goal.add-requires
add-requires c =
    let below : get_or c.args.nodes.now c.loop-node.node-index 0 < c.args.met.now.size = c.requires _ (in_at c.args.nodes.now c.loop-node.node-index c.loop-node-test.true) in
    omega (arith, below, c.loop-node.invariant.size)

pub loop-node-preserved : goal.loop-node-preserved
loop-node-preserved c =
    let ns = take c.loop-node.node-index c.args.nodes.now in
    let x = get_or c.args.nodes.now c.loop-node.node-index 0 in
    let is = take_more c.args.nodes.now c.loop-node.node-index 0 c.loop-node-test.true in
    let below : x < c.args.met.now.size = c.requires x (in_at c.args.nodes.now c.loop-node.node-index c.loop-node-test.true) in
    let low : x < c.loop-node.met.size = omega (arith, below, c.loop-node.invariant.size) in
    let more = take (c.loop-node.node-index + 1) c.args.nodes.now in
    elim c.if-not-has.branch [
      | then-not-has+in_ok-push w ↦
          rw (w.met-is, w.steps-is) (met_new ns more x c.args.before c.args.met.now c.args.steps.now c.loop-node.met c.loop-node.steps is c.loop-node.invariant
          w.add.new.self w.push.new.self w.add.ensures.size w.add.ensures.nodes (λ h. true≢false (sym (c.has.ensures.has.1 h) ∙ w.if-not-has.true)) low w.in_ok-push.ensures.ok)
      | else-not-has w ↦
          rw (w.met-is, w.steps-is) (met_known ns more x c.args.before c.args.met.now c.args.steps.now c.loop-node.met c.loop-node.steps is c.loop-node.invariant
          (c.has.ensures.has.0 w.if-not-has.false))
    ]

pub returns : goal.returns
returns c = subst (λ (l : List ℕ). HaveMet l c.args.before c.args.met.now c.args.steps.now c.loop-node.met c.loop-node.steps)
    (take_all c.loop-node.node-index c.args.nodes.now c.loop-node-test.false) c.loop-node.invariant
