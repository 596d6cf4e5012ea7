use Rattle.std.proofs.Common.{◌≡◌, ◌≤◌, ◌+◌, ◌-◌, Some, true}
use Rattle.msc_base.specs.declared.limits.TheConstants.Limits.{DOCUMENT_BYTES}
use Rattle.msc_cmd.specs.Intakes.{IsReading}
use Rattle.msc_cmd.proofs.reading.read_document.Given as goal

abbrev pub invariant-loop-intake : goal.invariant-loop-intake
invariant-loop-intake g l = record {
  files : g.S.Shelf.files l.shelf ≡ g.S.Shelf.files l.fn.shelf;
  begun : g.S.Shelf.begun l.shelf ≡ true;
  last : g.S.Shelf.last l.shelf ≡ Some l.name;
  later : g.S.Shelf.faults l.fn.shelf ≤ g.S.Shelf.faults l.shelf;
  reading : IsReading (g.S.Shelf.files l.shelf) l.name (g.S.Shelf.rest l.shelf) l.intake;
}

abbrev pub decreases-loop-intake : goal.decreases-loop-intake
decreases-loop-intake g l = DOCUMENT_BYTES + 1 - l.intake.count
