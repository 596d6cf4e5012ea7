use Rattle.std.proofs.Common.{◌≡◌, [], drop, map}
use Rattle.msc_instances.specs.Instances.{with_declared}
use Rattle.msc_instances.specs.NoteViews.{note_view}
use Rattle.msc_instances.proofs.naming.declared_in.Given as goal

abbrev pub invariant-loop-note : goal.invariant-loop-note
invariant-loop-note l = record {
  table : with_declared l.table (map note_view (drop l.note-index l.notes)) ≡ with_declared [] (map note_view l.notes);
  names : l.names ≡ l.table;
}
