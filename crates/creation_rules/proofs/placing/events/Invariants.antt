use Rattle.std.proofs.Common.{◌≡◌, ◌++◌, drop}
use Rattle.creation_rules.specs.Placing.{misplaced_events}
use Rattle.creation_rules.proofs.placing.events.Given as goal

abbrev pub invariant-loop-held : goal.invariant-loop-held
invariant-loop-held l = l.places ++ misplaced_events (drop l.held-index l.list) ≡ l.initial.places ++ misplaced_events l.list
