use Rattle.std.proofs.Common.{◌↔◌, ◌⊎◌, IsTrue, ap, Some, None}
use Rattle.msc_instances.specs.Meetings.{HasName, HasPart}
use Rattle.msc_instances.specs.Parts.{Clashes}
use Rattle.msc_instances.specs.PartViews.{part_view, column_view}
use Rattle.msc_instances.proofs.Meeting.{clash_outside, clash_inside, retold}
use Rattle.msc_instances.proofs.again.note.Goals as goal

pub returns-in-Outside-clause-told : goal.returns-in-Outside-clause-told
returns-in-Outside-clause-told c = λ before k.
    let same = clash_outside before (part_view c.args.part) (ap column_view c.in-Outside.is) in
    retold c.note_outside.result (λ again. IsTrue again ↔ HasName before c.args.part.name.now) (λ again. IsTrue again ↔ Clashes before (part_view c.args.part))
    (λ again h. (λ t. same.1 (h.0 t), λ x. h.1 (same.0 x))) (c.note_outside.ensures.told before k)

pub returns-in-InColumn-clause-told : goal.returns-in-InColumn-clause-told
returns-in-InColumn-clause-told c = λ before k.
    let same = clash_inside before (part_view c.args.part) c.in-InColumn.column.now (ap column_view c.in-InColumn.is) in
    retold c.note_inside.result (λ again. IsTrue again ↔ (HasPart before c.args.part.name.now None ⊎ HasPart before c.args.part.name.now (Some c.in-InColumn.column.now)))
    (λ again. IsTrue again ↔ Clashes before (part_view c.args.part))
    (λ again h. (λ t. same.1 (h.0 t), λ x. h.1 (same.0 x))) (c.note_inside.ensures.told before k)
