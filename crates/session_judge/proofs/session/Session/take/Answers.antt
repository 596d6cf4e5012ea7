use Rattle.std.proofs.Common.{OnOk, refl, subst}
use Rattle.session_judge.specs.Steps.{Takes}
use Rattle.session_judge.specs.Tracks.{SessionValue}
use Rattle.session_judge.proofs.Took.{session_takes}
use Rattle.session_judge.proofs.session.Session.take.Goals as goal

pub returns-clause-taken : goal.returns-clause-taken
returns-clause-taken g c =
    subst (λ (s : SessionValue _). OnOk c.take.result (Takes g.S.Store.holds c.args.nets.now c.args.number c.args.line s (record { key = c.self.inside.key; track = c.take.new.self }))) c.self.view_is
    (session_takes g.S.Store.holds c.args.nets.now c.args.number c.args.line (record { key = c.self.inside.key; track = c.self.inside.track }) (record { key = c.self.inside.key; track = c.take.new.self }) c.take.result refl c.take.ensures.count c.take.ensures.fed)
