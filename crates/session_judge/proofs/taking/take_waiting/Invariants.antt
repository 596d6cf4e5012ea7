use Rattle.std.proofs.Common.{◌≡◌, List, ℕ, not, length}
use Rattle.event_log.specs.declared.event.LogForm.{LogForm}
use Rattle.session_judge.specs.States.{IsCounted, TakesSome}
use Rattle.session_judge.specs.Tracks.{StaysMade}
use Rattle.session_judge.proofs.taking.take_waiting.Given as goal

abbrev pub invariant-loop-event : goal.invariant-loop-event
invariant-loop-event g l = record {
  counted : IsCounted l.reader l.tracks.sessions;
  finished : l.reader.finished ≡ l.fn.reader.finished;
  labels : l.reader.labels ≡ l.fn.reader.labels;
  made : StaysMade l.fn.tracks l.tracks;
  has : (form : LogForm) (b : List ℕ) → TakesSome g.S.Store.holds form (not l.fn.reader.finished) b l.fn.reader l.fn.tracks → TakesSome g.S.Store.holds form (not l.fn.reader.finished) b l.reader l.tracks;
}

abbrev pub decreases-loop-event : goal.decreases-loop-event
decreases-loop-event g l = length l.reader.waiting
