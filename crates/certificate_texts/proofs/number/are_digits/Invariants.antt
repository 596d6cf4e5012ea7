use Rattle.std.proofs.Common.{◌≡◌, length}
use Rattle.std.specs.Str.{all_ascii_digits}
use Rattle.certificate_texts.proofs.number.are_digits.Given as goal

abbrev pub invariant-loop-byte : goal.invariant-loop-byte
invariant-loop-byte l = all_ascii_digits l.rest ≡ all_ascii_digits l.bytes

abbrev pub decreases-loop-byte : goal.decreases-loop-byte
decreases-loop-byte l = length l.rest
