use Rattle.std.proofs.Common.{◌≡◌}
use Rattle.trace_judge.specs.Tracks.{IfHeld}
use Rattle.command_tests.proofs.traces.feed.Given as goal

abbrev pub invariant-loop-index : goal.invariant-loop-index
invariant-loop-index g l = IfHeld (λ set. g.S.Store.serves set l.nets) l.track × (l.track.events ≡ l.index)
