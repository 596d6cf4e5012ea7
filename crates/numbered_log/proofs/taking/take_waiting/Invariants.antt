use Rattle.std.proofs.Common.{◌≡◌, ℕ, List, not, length}
use Rattle.event_log.specs.declared.event.LogForm.{LogForm}
use Rattle.numbered_log.specs.States.{TakesSome}
use Rattle.numbered_log.proofs.taking.take_waiting.Given as goal

abbrev pub invariant-loop-event : goal.invariant-loop-event
invariant-loop-event l = record {
  finished : l.reader.finished ≡ l.fn.reader.finished;
  labels : l.reader.labels ≡ l.fn.reader.labels;
  has : (form : LogForm) (b : List ℕ) → TakesSome l.fn.reader.labels form (not l.fn.reader.finished) b l.fn.reader l.fn.numbers.items → TakesSome l.fn.reader.labels form (not l.fn.reader.finished) b l.reader l.numbers.items;
}

abbrev pub decreases-loop-event : goal.decreases-loop-event
decreases-loop-event l = length l.reader.waiting
