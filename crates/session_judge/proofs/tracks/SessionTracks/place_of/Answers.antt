use Rattle.std.proofs.Common.{◌≡◌, length, ap, sym, arith}
use Rattle.session_judge.specs.Tracks.{TracksValue, keys_in}
use Rattle.session_judge.proofs.SessionLists.{keys_long, lacked}
use Rattle.session_judge.proofs.tracks.SessionTracks.place_of.Goals as goal

pub returns : goal.returns
returns g c =
    let same : length c.args.self.now.sessions ≡ length c.self.inside.sessions.items = ap (λ (t : TracksValue _). length t.sessions) (sym c.self.view_is) in
    lacked (keys_in c.args.self.now.sessions) c.loop-place.place c.args.key.now (omega (arith, keys_long c.args.self.now.sessions, same, c.len-place-end.ensures, c.loop-place-test.false)) c.loop-place.invariant
