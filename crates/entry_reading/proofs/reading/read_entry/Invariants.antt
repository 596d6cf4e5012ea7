use Rattle.std.proofs.Common.{◌≡◌, ◌≤◌, ◌+◌, ◌-◌, [], Some, true}
use Rattle.entry_reading.specs.Consuming.{IsReading}
use Rattle.entry_reading.proofs.reading.read_entry.Given as goal

abbrev pub invariant-loop-refusal : goal.invariant-loop-refusal
invariant-loop-refusal g l = record {
  files : g.S.Shelf.files l.shelf ≡ g.S.Shelf.files l.fn.shelf;
  begun : g.S.Shelf.begun l.shelf ≡ true;
  last : g.S.Shelf.last l.shelf ≡ Some l.name;
  later : g.S.Shelf.faults l.fn.shelf ≤ g.S.Shelf.faults l.shelf;
  some : (setting : g.C.Consumer.Setting) × IsReading (g.C.Consumer.has_taken setting) (g.S.Shelf.files l.shelf) l.name (g.S.Shelf.rest l.shelf) l.consumer;
  reading : (setting : g.C.Consumer.Setting) → g.C.Consumer.has_taken setting [] l.fn.consumer → IsReading (g.C.Consumer.has_taken setting) (g.S.Shelf.files l.shelf) l.name (g.S.Shelf.rest l.shelf) l.consumer;
}

abbrev pub decreases-loop-refusal : goal.decreases-loop-refusal
decreases-loop-refusal g l = g.C.Consumer.most + 1 - g.C.Consumer.count l.consumer
