use Rattle.std.proofs.Common.{rules, ◌≡◌, map, ◌↔◌, IsTrue}
use Rattle.msc_instances.specs.NoteViews.{note_view}
use Rattle.msc_instances.specs.Notes.{Decomposed}
use Rattle.msc_base.specs.Lists.{IsAmong}
use Rattle.msc_instances.proofs.NoteSteps.{again_step}
use Rattle.msc_instances.proofs.naming.decomposed_again.Goals as goal

pub loop-note-preserved : goal.loop-note-preserved
loop-note-preserved c =
    let view : note_view c.note-item.result ≡ Decomposed c.in-Decomposed.name.now c.in-Decomposed.place = search rules in
    let tests : IsTrue c.has-again.result ↔ IsAmong c.loop-note.before c.in-Decomposed.name.now = search rules in
    again_step (map note_view c.args.notes.now) c.args.notes.now c.loop-note.note-index c.in-Decomposed.name.now c.in-Decomposed.place c.note-item.result
    c.has-again.result c.loop-note.before _ c.loop-note.best _ c.loop-note.invariant c.loop-note-test.true c.note-item.is view tests.0 tests.1 (search rules) (search rules)
