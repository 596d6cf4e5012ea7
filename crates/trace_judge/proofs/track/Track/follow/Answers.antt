use Rattle.std.proofs.Common.{subst}
use Rattle.trace_judge.specs.Advances.{Follows}
use Rattle.trace_judge.specs.Tracks.{TrackValue}
use Rattle.trace_judge.proofs.Tracking.{followed}
use Rattle.trace_judge.proofs.track.Track.follow.Goals as goal

pub returns-in_ok-outcome-in-Some-clause-ok : goal.returns-in_ok-outcome-in-Some-clause-ok
returns-in_ok-outcome-in-Some-clause-ok g c =
    subst (λ (t : TrackValue _). Follows g.S.Store.holds c.args.nets.now c.args.number c.args.line t.set t c.note.new.self) c.self.view_is
    (followed g.S.Store.holds c.args.nets.now c.args.number c.args.line _ c.note.new.self c.in-Some.set c.advance.new.set c.in_ok-outcome-in-Some.outcome c.in-Some.is c.in_ok-outcome-in-Some.ensures.ok c.note.ensures)
