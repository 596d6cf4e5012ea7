use Rattle.std.proofs.Common.{drop, map}
use Rattle.msc_base.proofs.Narrowing.{Narrows}
use Rattle.msc_instances.specs.Instances.{NamesOther}
use Rattle.msc_instances.specs.NoteViews.{note_view}
use Rattle.msc_instances.proofs.naming.named_other.Given as goal

abbrev pub invariant-loop-note : goal.invariant-loop-note
invariant-loop-note l = Narrows (NamesOther l.table (map note_view l.notes)) (λ q. NamesOther l.table (map note_view (drop l.note-index l.notes)) q) l.best
