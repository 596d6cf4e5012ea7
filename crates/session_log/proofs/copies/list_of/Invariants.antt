use Rattle.std.proofs.Common.{◌≡◌, take}
use Rattle.session_log.proofs.copies.list_of.Given as goal

abbrev pub invariant-loop-token : goal.invariant-loop-token
invariant-loop-token l = l.list.tokens ≡ take l.token-index l.tokens
