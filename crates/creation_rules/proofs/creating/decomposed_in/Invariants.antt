use Rattle.std.proofs.Common.{◌≡◌, [], drop, map}
use Rattle.creation_rules.specs.Creating.{with_decomposed}
use Rattle.msc_instances.specs.NoteViews.{note_view}
use Rattle.creation_rules.proofs.creating.decomposed_in.Given as goal

abbrev pub invariant-loop-note : goal.invariant-loop-note
invariant-loop-note l = with_decomposed l.table (map note_view (drop l.note-index l.notes)) ≡ with_decomposed [] (map note_view l.notes)
