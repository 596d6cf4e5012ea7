use Rattle.std.proofs.Common.{◌+◌, sym, subst, ◌∙◌, drop, Option, arith}
use Rattle.msc_base.proofs.Narrowing.{Narrows}
use Rattle.msc_base.specs.declared.place.Place.{Place}
use Rattle.msc_acceptance.specs.Deciding.{IsFlagged}
use Rattle.msc_acceptance.proofs.CycleLaws.{flag_end, flag_skip, flag_step}
use Rattle.msc_acceptance.proofs.cycles.earliest_flagged.Goals as goal
use Rattle.msc_acceptance.proofs.cycles.earliest_flagged.Goals.{then-number-stands, else-number-stands}

pub loop-flag-preserved : goal.loop-flag-preserved
loop-flag-preserved c =
    let stands = c.args.stands.now in
    let flags = c.args.flags.now in
    let at = c.loop-flag in
    elim c.if-number-stands.branch [
      | then-number-stands w ↦ (
        omega (arith, at.invariant.0),
        subst (λ (o : Option Place). Narrows (IsFlagged stands flags) (IsFlagged (drop (at.number + 1) stands) (drop (at.flag-index + 1) flags)) o) (sym (w.best-is ∙ w.earlier_if-best.ensures))
            (flag_step stands flags at.flag-index at.number _ _ at.best w.if-number-stands.true c.loop-flag-test.true at.invariant.1),
      )
      | else-number-stands w ↦ (
        omega (arith, at.invariant.0),
        subst (λ (o : Option Place). Narrows (IsFlagged stands flags) (IsFlagged (drop (at.number + 1) stands) (drop (at.flag-index + 1) flags)) o) (sym w.best-is)
            (flag_skip stands flags at.flag-index at.number at.best (λ lt. omega (arith, lt, w.if-number-stands.false)) at.invariant.1),
      )
    ]

pub returns : goal.returns
returns c = flag_end c.args.stands.now c.args.flags.now c.loop-flag.flag-index c.loop-flag.number c.loop-flag.best (λ lt. omega (arith, lt, c.loop-flag-test.false)) c.loop-flag.invariant.1
