use Rattle.std.proofs.Common.{ap, arith, length}
use Rattle.log_ways.proofs.Stepped.{steps_long}
use Rattle.log_ways.proofs.log_way.LogWay.len.Goals as goal

pub returns : goal.returns
returns c =
    let l = steps_long c.self.inside.known.items c.self.inside.places.items c.self.invariant in
    let v = ap length c.self.view_is in
    omega (arith, l, v, c.len.ensures, c.self.inside.places.ok.0)
