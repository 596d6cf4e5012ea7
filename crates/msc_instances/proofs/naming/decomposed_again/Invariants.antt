use Rattle.std.proofs.Common.{[], drop, map}
use Rattle.msc_base.proofs.Narrowing.{Narrows}
use Rattle.msc_instances.specs.Instances.{DecomposesAgain}
use Rattle.msc_instances.specs.NoteViews.{note_view}
use Rattle.msc_instances.proofs.naming.decomposed_again.Given as goal

abbrev pub invariant-loop-note : goal.invariant-loop-note
invariant-loop-note l = Narrows (DecomposesAgain [] (map note_view l.notes)) (λ q. DecomposesAgain l.before (map note_view (drop l.note-index l.notes)) q) l.best
