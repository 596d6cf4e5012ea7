use Rattle.std.proofs.Common.{◌≡◌, ◌≤◌, ◌+◌, length}
use Rattle.std.specs.Prelude.{fold}
use Rattle.msc_tokens.specs.Machine.{step}
use Rattle.msc_tokens.specs.Views.{view}
use Rattle.msc_tokens.proofs.lexer.take_all.Given as goal

abbrev pub invariant-loop-rest : goal.invariant-loop-rest
invariant-loop-rest l = (l.machine.place.byte + length l.rest ≤ l.initial.machine.place.byte + length l.piece) × (fold step (view l.initial.machine) l.piece ≡ fold step (view l.machine) l.rest)

abbrev pub decreases-loop-rest : goal.decreases-loop-rest
decreases-loop-rest l = length l.rest
