use Rattle.std.proofs.Common.{◌≡◌, rules, Some, [], subst, ◌∙◌, Option}
use Rattle.outside.specs.Shelves.{Files}
use Rattle.msc_cmd.specs.Intakes.{IsReading, HoldsDocument}
use Rattle.msc_cmd.proofs.Taking.{holds_end, holds_over}
use Rattle.msc_cmd.proofs.reading.read_document.Goals as goal

pub returns-then-count-eq0-clause-holds : goal.returns-then-count-eq0-clause-holds
returns-then-count-eq0-clause-holds g c =
    let end : c.in_ok-count.count ≡ 0 → IsReading (g.S.Shelf.files c.take_more.new.shelf) c.args.name.now (Some []) c.take_more.new.intake = search rules in
    let same : g.S.Shelf.files c.take_more.new.shelf ≡ g.S.Shelf.files c.args.shelf.now = c.take_more.ensures.files ∙ c.loop-intake.invariant.files in
    subst (λ (f : Option Files). HoldsDocument f c.args.name.now c.take_more.new.intake) same (holds_end _ _ _ (end c.if-count-eq0.true))

pub returns-clause-holds : goal.returns-clause-holds
returns-clause-holds g c =
    subst (λ (f : Option Files). HoldsDocument f c.args.name.now c.loop-intake.intake) c.loop-intake.invariant.files (holds_over _ _ _ _ c.loop-intake-test.false c.loop-intake.invariant.reading)
