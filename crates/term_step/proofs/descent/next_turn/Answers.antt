use Rattle.std.proofs.Common.{arith, refl}
use Rattle.chart_term.specs.Terms.{Loop, row_of}
use Rattle.chart_term.specs.Rows.{part_of}
use Rattle.term_step.proofs.Passes.{over-more, over-next, loop-step, loop-end}
use Rattle.term_step.proofs.Placed.{held-loop, skip-either}
use Rattle.term_laws.specs.Permission.{permits_of}
use Rattle.term_permission.proofs.PermitRows.{ready-part}
use Rattle.term_step.proofs.descent.next_turn.Goals as goal

pub turn_of-requires-clause-part : goal.turn_of-requires-clause-part
turn_of-requires-clause-part c = ready-part c.args.nets.now.tables c.args.turns.row.now c.in-Some-next_with.index (part_of c.at-part.result.now) c.at-part.ensures c.requires.row.parts

pub returns-in_default : goal.returns-in_default
returns-in_default c =
    let (one, block, held) = rw c.in_default.is at c.skip_of.ensures.all in
    held-loop c.args.nets.now.tables c.args.label (Loop c.args.turns.body.now c.args.turns.lower c.args.turns.upper (row_of c.args.turns.row.now)) c.args.turns.row.now c.args.from c.args.met.now c.requires.met (c.requires.placed one) c.args.turns.body.now c.args.turns.lower c.args.turns.upper block.instances refl (rw held at c.in_ok-held.ensures)

pub returns-in_default-next_with : goal.returns-in_default-next_with
returns-in_default-next_with c =
    let none = rw c.in_default-next_with.is at c.next_with.ensures in
    loop-end c.args.nets.now.tables c.args.label c.args.turns.body.now c.args.turns.lower c.args.turns.upper c.args.turns.row.now c.args.from
    (over-more c.args.nets.now.tables c.args.label c.args.turns.body.now c.args.turns.lower c.args.turns.upper c.args.turns.row.now c.args.from c.in-Some.skip.instances (skip-either (permits_of c.args.nets.now.tables) c.args.turns.row.now c.args.from c.args.met.now c.in_ok-held.held c.in-Some.skip c.in_ok-held.ensures (rw c.in-Some.is at c.skip_of.ensures.some) (rw c.in-Some.is at c.skip_of.ensures.none)) c.rows.at _ c.rows.invariant.behind (omega arith) c.rows.invariant.over none)

pub returns-in-Some-2 : goal.returns-in-Some-2
returns-in-Some-2 c =
    let n = c.in-Some-next_with.ensures in
    let over = over-more c.args.nets.now.tables c.args.label c.args.turns.body.now c.args.turns.lower c.args.turns.upper c.args.turns.row.now c.args.from c.in-Some.skip.instances (skip-either (permits_of c.args.nets.now.tables) c.args.turns.row.now c.args.from c.args.met.now c.in_ok-held.held c.in-Some.skip c.in_ok-held.ensures (rw c.in-Some.is at c.skip_of.ensures.some) (rw c.in-Some.is at c.skip_of.ensures.none)) c.rows.at c.in-Some-next_with.index c.rows.invariant.behind (omega (arith, n.1)) c.rows.invariant.over n.2 in
    let child = rw c.in-Some-2.is at c.in_ok-inner.ensures in
    loop-step c.args.nets.now.tables c.args.label c.args.turns.body.now c.args.turns.lower c.args.turns.upper c.args.turns.row.now c.args.from c.in-Some-next_with.index (part_of c.at-part.result.now) c.in-Some-2.inner (omega (arith, n.0, c.rows.invariant.behind)) over c.at-part.ensures child

pub rows-preserved : goal.rows-preserved
rows-preserved c =
    let n = c.in-Some-next_with.ensures in
    let over = over-more c.args.nets.now.tables c.args.label c.args.turns.body.now c.args.turns.lower c.args.turns.upper c.args.turns.row.now c.args.from c.in-Some.skip.instances (skip-either (permits_of c.args.nets.now.tables) c.args.turns.row.now c.args.from c.args.met.now c.in_ok-held.held c.in-Some.skip c.in_ok-held.ensures (rw c.in-Some.is at c.skip_of.ensures.some) (rw c.in-Some.is at c.skip_of.ensures.none)) c.rows.at c.in-Some-next_with.index c.rows.invariant.behind (omega (arith, n.1)) c.rows.invariant.over n.2 in
    let none = rw c.in_default-2.is at c.in_ok-inner.ensures in
    record {
      behind = omega (arith, n.0, c.rows.invariant.behind);
      over = over-next c.args.nets.now.tables c.args.label c.args.turns.body.now c.args.turns.lower c.args.turns.upper c.args.turns.row.now c.args.from c.in-Some-next_with.index (part_of c.at-part.result.now) over c.at-part.ensures none;
    }
