use Rattle.std.proofs.Common.{◌≡◌, ◌≤◌, ◌+◌, length}
use Rattle.msc_base.specs.declared.limits.TheConstants.Limits.{LOG_BYTES}
use Rattle.event_log.proofs.Feeding.{HasTaken}
use Rattle.event_log.proofs.reader.LineReader.feed_within.Given as goal

abbrev pub invariant-loop-end : goal.invariant-loop-end
invariant-loop-end g l = record {
  has : HasTaken g.M.LineMeaning.rules l.fn.self l.fn.piece l.rest l.self;
  room : l.self.count + length l.rest ≤ LOG_BYTES;
  labels : l.self.labels ≡ l.fn.self.labels;
}

abbrev pub decreases-loop-end : goal.decreases-loop-end
decreases-loop-end g l = length l.rest
