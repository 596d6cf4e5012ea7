use Rattle.std.proofs.Common.{◌<◌, ℕ, arith, subst}
use Rattle.hmsc_graph.specs.Nets.{size_of}
use Rattle.hmsc_graph.specs.Searches.{IsFirstLost}
use Rattle.hmsc_graph.proofs.EndFacts.{first_endless}
use Rattle.msc_base.specs.Lists.{IsIn}
use Rattle.hmsc_graph.proofs.ending.endless.Goals as goal

pub returns : goal.returns
returns c =
    let each : (n : ℕ) → n < size_of c.args.net.now → IsIn n c.in_ok-all.all.nodes = λ n below. c.in_ok-all.ensures.full n (omega (arith, below, c.in_ok-all.ensures.size, c.size.ensures.size)) in
    let lost : IsFirstLost (size_of c.args.net.now) c.in_ok-reached.reached.nodes c.in_ok-ending.ending.nodes c.first_lost.result =
    subst (λ (n : ℕ). IsFirstLost n c.in_ok-reached.reached.nodes c.in_ok-ending.ending.nodes c.first_lost.result) c.size-2.ensures.size c.first_lost.ensures in
    first_endless c.args.net.now c.in_ok-all.all.nodes c.in_ok-reached.reached.nodes c.in_ok-ending.ending.nodes c.size.ensures.net each c.in_ok-reached.ensures.nodes c.in_ok-ending.ensures c.first_lost.result lost
