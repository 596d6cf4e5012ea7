use Rattle.std.proofs.Common.{◌≡◌, List, Some, ap, arith, length, refl, slice_get, subst}
use Rattle.std.proofs.lemmas.Option.{slice_get_read}
use Rattle.log_ways.proofs.Stepped.{place_there, step_there, steps_long}
use Rattle.log_ways.proofs.log_way.LogWay.step.Goals as goal
use Rattle.log_ways.specs.declared.steps.StepBack.{StepBack}

pub index-requires : goal.index-requires
index-requires c =
    let l = steps_long c.self.inside.known.items c.self.inside.places.items c.self.invariant in
    let v = ap length c.self.view_is in
    omega (arith, l, v, c.requires, c.self.inside.places.ok.0)

pub index-requires-2 : goal.index-requires-2
index-requires-2 c =
    let ks = c.self.inside.known.items in
    let ps = c.self.inside.places.items in
    let l = steps_long ks ps c.self.invariant in
    let v = ap length c.self.view_is in
    let at : slice_get ps c.args.index ≡ Some c.index.result.now = slice_get_read ps (length ps) c.args.index c.index.result.now refl (omega (arith, l, v, c.requires)) c.index.ensures in
    omega (arith, place_there ks ps c.args.index c.index.result.now c.self.invariant at, c.self.inside.known.ok.0)

pub returns : goal.returns
returns c =
    let ks = c.self.inside.known.items in
    let ps = c.self.inside.places.items in
    let l = steps_long ks ps c.self.invariant in
    let v = ap length c.self.view_is in
    let place = c.index.result.now in
    let k = c.index-2.result.now in
    let at : slice_get ps c.args.index ≡ Some place = slice_get_read ps (length ps) c.args.index place refl (omega (arith, l, v, c.requires)) c.index.ensures in
    let there : slice_get ks place ≡ Some k = slice_get_read ks (length ks) place k refl (place_there ks ps c.args.index place c.self.invariant at) c.index-2.ensures in
    subst (λ (steps : List StepBack). slice_get steps c.args.index ≡ Some k.step) c.self.view_is (step_there ks ps c.args.index place k c.self.invariant at there)
