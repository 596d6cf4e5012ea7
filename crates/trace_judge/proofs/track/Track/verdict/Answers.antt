use Rattle.std.proofs.Common.{sym, ◌∙◌, ap}
use Rattle.trace_judge.specs.Tracks.{TrackValue}
use Rattle.trace_judge.proofs.Tracking.{open_verdict_is, open_verdict_tells, settled_tells}
use Rattle.trace_judge.proofs.track.Track.verdict.Goals as goal

pub returns-in-Some-default-clause-runs : goal.returns-in-Some-default-clause-runs
returns-in-Some-default-clause-runs g c = λ x budget events f.
    settled_tells g.S.Store.holds c.args.nets.now x budget events c.args.self.now c.in-Some-default.verdict (ap (λ (t : TrackValue _). t.ended) (sym c.self.view_is) ∙ c.in-Some-default.is-0) f

pub returns-in-None-Some-clause-verdict : goal.returns-in-None-Some-clause-verdict
returns-in-None-Some-clause-verdict g c = λ x budget events f.
    open_verdict_is g.S.Store.holds c.args.nets.now x budget events c.args.self.now c.in-None-Some.set c.open_verdict.result
    (ap (λ (t : TrackValue _). t.ended) (sym c.self.view_is) ∙ c.in-None-Some.is-0) (ap (λ (t : TrackValue _). t.set) (sym c.self.view_is) ∙ c.in-None-Some.is-1) c.open_verdict.ensures.verdict f

pub returns-in-None-Some-clause-runs : goal.returns-in-None-Some-clause-runs
returns-in-None-Some-clause-runs g c = λ x budget events f.
    open_verdict_tells g.S.Store.holds c.args.nets.now x budget events c.args.self.now c.in-None-Some.set c.open_verdict.result
    (ap (λ (t : TrackValue _). t.ended) (sym c.self.view_is) ∙ c.in-None-Some.is-0) (ap (λ (t : TrackValue _). t.set) (sym c.self.view_is) ∙ c.in-None-Some.is-1) c.open_verdict.ensures.verdict f
