use Rattle.std.proofs.Common.{take}
use Rattle.session_judge.specs.Steps.{AreAnswers}
use Rattle.session_judge.proofs.tracks.SessionTracks.verdicts.Given as goal

abbrev pub invariant-loop-session : goal.invariant-loop-session
invariant-loop-session g l = AreAnswers g.S.Store.holds l.self.nets (take l.session-index l.session-items) l.verdicts
