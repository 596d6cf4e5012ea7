use Rattle.std.proofs.Common.{◌≡◌, ℕ, List, [], Option, take}
use Rattle.msc_meaning.specs.Calls.{joins_calls}
use Rattle.gate_ends.proofs.calling.joins_call_gate.Given as goal

abbrev pub invariant-loop-join : goal.invariant-loop-join
invariant-loop-join l = (own : Option (List ℕ)) → joins_calls own (take l.join-index l.joins) ≡ []
