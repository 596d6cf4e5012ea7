use Rattle.std.proofs.Common.{◌≡◌, ℕ, List, not, length}
use Rattle.chart_term.specs.Terms.{Tree}
use Rattle.event_log.specs.declared.event.LogForm.{LogForm}
use Rattle.trace_judge.specs.Tracks.{IfHeld}
use Rattle.log_judge.specs.Taking.{IsCounted, IsFollowing, TakesSome}
use Rattle.log_judge.proofs.taking.take_waiting.Given as goal

abbrev pub invariant-loop-event : goal.invariant-loop-event
invariant-loop-event g l = record {
  serves : IfHeld (λ set. g.S.Store.serves set l.nets) l.track;
  counted : IsCounted l.reader l.track.events;
  finished : l.reader.finished ≡ l.fn.reader.finished;
  labels : l.reader.labels ≡ l.fn.reader.labels;
  has : (x : Tree) (form : LogForm) (budget : ℕ) (b : List ℕ) → TakesSome g.S.Store.holds l.nets x form budget (not l.fn.reader.finished) b l.fn.reader l.fn.track → TakesSome g.S.Store.holds l.nets x form budget (not l.fn.reader.finished) b l.reader l.track;
  follows : (x : Tree) (budget : ℕ) → IsFollowing g.S.Store.holds l.nets x budget l.fn.track → IsFollowing g.S.Store.holds l.nets x budget l.track;
}

abbrev pub decreases-loop-event : goal.decreases-loop-event
decreases-loop-event g l = length l.reader.waiting
