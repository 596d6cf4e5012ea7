use Rattle.std.proofs.Common.{refl, rules, ◌≡◌, true, None, Some}
use Rattle.chart_term.specs.NormalForms.{begun}
use Rattle.chart_term.specs.Terms.{Join, trees}
use Rattle.msc_base.specs.Patterns.{seq}
use Rattle.term_step.proofs.Passes.{next-row}
use Rattle.term_step.proofs.Placed.{held-row, skip-either}
use Rattle.term_laws.specs.Permission.{permits_of}
use Rattle.term_permission.proofs.PermitRows.{turns-ready}
use Rattle.term_permission.proofs.Permits.{turns-are-ready}
use Rattle.term_step.proofs.descent.next_in_row.Goals as goal

pub blocked-requires-clause-parts : goal.blocked-requires-clause-parts
blocked-requires-clause-parts c = turns-ready c.args.nets.now.tables c.args.parts.now c.requires.turns (turns-are-ready c.args.nets.now.tables seq (Join seq (trees (begun c.args.parts.now))) c.args.parts.now refl c.requires.row)

pub returns-in_default : goal.returns-in_default
returns-in_default c =
    let (one, block, held) = rw c.in_default.is at c.skip_of.ensures.all in
    held-row c.args.nets.now.tables c.args.label (Join seq (trees (begun c.args.parts.now))) c.args.parts.now c.args.from c.args.met.now c.requires.met (c.requires.placed one) block.instances refl c.requires.turns (rw held at c.in_ok-held.ensures)

pub returns-in_default-next : goal.returns-in_default-next
returns-in_default-next c =
    let skip = skip-either (permits_of c.args.nets.now.tables) c.args.parts.now c.args.from c.args.met.now c.in_ok-held.held c.in-Some.skip c.in_ok-held.ensures (rw c.in-Some.is at c.skip_of.ensures.some) (rw c.in-Some.is at c.skip_of.ensures.none) in
    next-row c.args.nets.now.tables c.args.label (Join seq (trees (begun c.args.parts.now))) c.args.parts.now c.args.from c.requires.turns None c.in-Some.skip.instances refl skip (rw c.in_default-next.is at c.in_ok-next.ensures)

pub returns-then-branch : goal.returns-then-branch
returns-then-branch c =
    let yes : c.in_ok-is_held.field-0 ≡ true = search rules in
    let (one, (block, held)) = c.in_ok-is_held.ensures yes in
    held-row c.args.nets.now.tables c.args.label (Join seq (trees (begun c.args.parts.now))) c.args.parts.now c.args.from c.args.met.now c.requires.met (c.requires.placed one) block refl c.requires.turns held

pub returns : goal.returns
returns c =
    let skip = skip-either (permits_of c.args.nets.now.tables) c.args.parts.now c.args.from c.args.met.now c.in_ok-held.held c.in-Some.skip c.in_ok-held.ensures (rw c.in-Some.is at c.skip_of.ensures.some) (rw c.in-Some.is at c.skip_of.ensures.none) in
    next-row c.args.nets.now.tables c.args.label (Join seq (trees (begun c.args.parts.now))) c.args.parts.now c.args.from c.requires.turns (Some c.in-Some-next.step) c.in-Some.skip.instances refl skip (rw c.in-Some-next.is at c.in_ok-next.ensures)
