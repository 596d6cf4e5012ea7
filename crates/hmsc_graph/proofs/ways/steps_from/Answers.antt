use Rattle.std.proofs.Common.{None, ◌<◌, ◌≤◌, ◌≡◌, ℕ, List, length, refl, sym, subst, arith}
use Rattle.hmsc_graph.specs.Nets.{size_of}
use Rattle.hmsc_graph.specs.Spots.{spot_of}
use Rattle.hmsc_graph.proofs.SearchFacts.{behind_below}
use Rattle.hmsc_graph.proofs.WayFacts.{searched_first, searched_all, steps_are_back, steps_below}
use Rattle.msc_base.specs.Lists.{IsIn}
use Rattle.hmsc_graph.proofs.ways.steps_from.Goals as goal

pub meet-requires : goal.meet-requires
meet-requires c = λ m i.
    let below : m < size_of c.args.net.now = behind_below c.args.net.now (spot_of c.args.from) m c.behind.ensures.net (subst (λ (l : List ℕ). IsIn m l) c.behind.ensures.nodes i) in
    omega (arith, below, c.in_ok-met.ensures.size, c.size.ensures.size)

pub loop-index-init : goal.loop-index-init
loop-index-init c =
    let sized : c.in_ok-met.met.size ≡ size_of c.args.net.now = omega (arith, c.in_ok-met.ensures.size, c.size.ensures.size) in
    searched_first c.behind.result.now None c.in_ok-met.met c.new-steps.result c.meet.new.met c.meet.new.steps c.in_ok-meet.ensures
    c.args.net.now c.args.allowed.now.nodes (spot_of c.args.from) (sym c.behind.ensures.nodes) refl c.in_ok-met.ensures.empty c.new-steps.ensures sized

pub go_on-requires-clause-below : goal.go_on-requires-clause-below
go_on-requires-clause-below c =
    steps_below c.args.net.now c.args.allowed.now.nodes (spot_of c.args.from) c.loop-index.steps c.size.ensures.net c.loop-index.invariant.are

pub loop-index-preserved : goal.loop-index-preserved
loop-index-preserved c = c.in_ok-go_on.ensures.on (spot_of c.args.from) c.loop-index.invariant

pub returns-clause-back : goal.returns-clause-back
returns-clause-back c = steps_are_back c.args.net.now c.args.allowed.now.nodes (spot_of c.args.from) c.loop-index.steps c.loop-index.invariant.are

pub returns-clause-below : goal.returns-clause-below
returns-clause-below c =
    steps_below c.args.net.now c.args.allowed.now.nodes (spot_of c.args.from) c.loop-index.steps c.size.ensures.net c.loop-index.invariant.are

pub returns-clause-all : goal.returns-clause-all
returns-clause-all c =
    let over : length c.loop-index.steps ≤ c.loop-index.index = omega (arith, c.len.ensures, c.loop-index-test.false) in
    searched_all c.args.net.now c.args.allowed.now.nodes (spot_of c.args.from) c.loop-index.met c.loop-index.steps c.loop-index.index over c.loop-index.invariant
