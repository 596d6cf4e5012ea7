use Rattle.std.proofs.Common.{◌≡◌, ◌+◌, ◌-◌, ◌*◌, min, get_or, rules}
use Rattle.std.proofs.lemmas.Int.Digits.{digits_value_more}
use Rattle.msc_base.specs.declared.limits.TheConstants.Limits.{LOOP_BOUND}
use Rattle.msc_expression.proofs.Kept.{kept_step, digit_at, value_of_digit}
use Rattle.msc_expression.proofs.bounds.kept.Goals as goal

pub loop-digit-preserved : goal.loop-digit-preserved
loop-digit-preserved c =
    let digits = c.args.digits.now in
    let i = c.loop-digit.digit-index in
    let digit = value_of_digit (get_or digits i 0) (digit_at digits i c.requires c.loop-digit-test.true) in
    let next : c.min-number.result ≡ min (c.loop-digit.number * 10 + (get_or digits i 0 - 48)) (LOOP_BOUND + 1) = search rules in
    rw (next, digits_value_more 10 digits i c.loop-digit-test.true, c.loop-digit.invariant, digit) (kept_step _ _ _)
