use Rattle.std.proofs.Common.{◌≡◌, ◌<◌, ℕ, Some, slice_get}
use Rattle.session_judge.specs.Tracks.{keys_in}
use Rattle.session_judge.proofs.tracks.SessionTracks.place_of.Given as goal

abbrev pub invariant-loop-place : goal.invariant-loop-place
invariant-loop-place g l = (n : ℕ) → n < l.place → slice_get (keys_in l.self.sessions) n ≡ Some l.key → ⊥
