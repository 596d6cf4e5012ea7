use Rattle.std.proofs.Common.{◌≡◌, ◌+◌, length}
use Rattle.msc_tokens.specs.Wholes.{word_length}
use Rattle.msc_tokens.proofs.whole.word_length.Given as goal

abbrev pub invariant-loop-byte : goal.invariant-loop-byte
invariant-loop-byte l = (word_length l.bytes ≡ l.count + word_length l.rest) × (l.count + length l.rest ≡ length l.bytes)

abbrev pub decreases-loop-byte : goal.decreases-loop-byte
decreases-loop-byte l = length l.rest
