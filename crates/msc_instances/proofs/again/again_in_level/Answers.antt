use Rattle.std.proofs.Common.{rules, arith, ◌≡◌, List, map, ◌∷◌, IsTrue, ◌↔◌}
use Rattle.msc_base.specs.Places.{earliest_if}
use Rattle.msc_instances.specs.Meetings.{Knows}
use Rattle.msc_instances.specs.Parts.{NamedPart, Clashes}
use Rattle.msc_instances.specs.PartViews.{part_view}
use Rattle.msc_instances.proofs.PartSteps.{onward_step, parts_end}
use Rattle.msc_instances.proofs.again.again_in_level.Goals as goal

pub loop-part-preserved : goal.loop-part-preserved
loop-part-preserved c =
    let told : (before : List NamedPart) → Knows c.loop-part.met before → IsTrue c.in_ok-again.again ↔ Clashes before (part_view c.part-item.result) = c.in_ok-again.ensures.told in
    let kept : (before : List NamedPart) → Knows c.loop-part.met before → Knows c.note.new.met (part_view c.part-item.result ∷ before) = c.in_ok-again.ensures.kept in
    let made : c.earlier_if-best.result ≡ earliest_if c.in_ok-again.again c.loop-part.best c.part-item.result.place = search rules in
    onward_step c.args.so_far (map part_view c.args.parts.now) c.args.parts.now c.loop-part.part-index c.part-item.result c.loop-part.met c.note.new.met c.loop-part.best c.earlier_if-best.result
    c.in_ok-again.again c.loop-part.invariant c.loop-part-test.true c.part-item.is told kept made

pub returns : goal.returns
returns c = parts_end c.args.so_far c.args.parts.now c.loop-part.part-index c.loop-part.met c.loop-part.best c.loop-part.invariant (λ l. absurd (omega (arith, l, c.loop-part-test.false)))
