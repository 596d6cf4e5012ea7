use Rattle.std.specs.Prelude.{◌≡◌, ◌+◌}
use Rattle.trace_judge.specs.Tracks.{IfHeld}
use Rattle.term_bench.proofs.logs.take_turn.Given as goal

abbrev pub invariant-loop-index : goal.invariant-loop-index
invariant-loop-index g l = record {
  serves : IfHeld (λ set. g.S.Store.serves set l.nets) l.track;
  count : l.track.events ≡ l.initial.track.events + l.index;
}
