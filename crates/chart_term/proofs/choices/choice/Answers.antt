use Rattle.std.proofs.Common.{◌<◌, length, subst, sym, ap, arith}
use Rattle.chart_term.proofs.Distinct.{distinct_some}
use Rattle.chart_term.proofs.choices.choice.Goals as goal

pub form_of-requires : goal.form_of-requires
form_of-requires c = subst (λ l. 0 < length l) (sym c.in_ok-kept.ensures) (distinct_some c.loop-item.opened (omega (arith, ap length c.as_slice-item-items.ensures, c.loop-item.invariant.long, c.loop-item-test.false, c.requires)))
