use Rattle.std.proofs.Common.{◌≡◌, ◌+◌, ◌≤◌, drop}
use Rattle.msc_tokens.specs.Places.{past}
use Rattle.msc_tokens.proofs.place.place_behind.Given as goal

abbrev pub invariant-loop-byte : goal.invariant-loop-byte
invariant-loop-byte l = (past l.here (drop l.byte-index l.bytes) ≡ past l.fn.place l.bytes)
    × (l.here.line ≤ l.here.byte + 1) × (l.here.column ≤ l.here.byte + 1) × (l.here.byte ≡ l.fn.place.byte + l.byte-index)
