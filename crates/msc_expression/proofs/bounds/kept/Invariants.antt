use Rattle.std.proofs.Common.{◌+◌, ◌≡◌, min, take}
use Rattle.std.specs.Str.Parse.{digits_value}
use Rattle.msc_base.specs.declared.limits.TheConstants.Limits.{LOOP_BOUND}
use Rattle.msc_expression.proofs.bounds.kept.Given as goal

abbrev pub invariant-loop-digit : goal.invariant-loop-digit
invariant-loop-digit l = l.number ≡ min (digits_value 10 (take l.digit-index l.digits)) (LOOP_BOUND + 1)
