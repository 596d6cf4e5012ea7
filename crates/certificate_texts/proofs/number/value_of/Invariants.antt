use Rattle.std.proofs.Common.{◌≡◌, take}
use Rattle.certificate_texts.specs.Numbers.{digits_number}
use Rattle.certificate_texts.proofs.number.value_of.Given as goal

abbrev pub invariant-loop-digit : goal.invariant-loop-digit
invariant-loop-digit l = l.value ≡ digits_number 0 (take l.digit-index l.digits)
