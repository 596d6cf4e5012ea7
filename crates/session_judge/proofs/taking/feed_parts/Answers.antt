use Rattle.std.proofs.Common.{◌++◌, Bool, true, not, sym, subst}
use Rattle.session_log.specs.Sessions.{session_rules}
use Rattle.log_judge.proofs.Takings.{piece_taken}
use Rattle.session_judge.specs.States.{TakesSome, TakesAll}
use Rattle.session_judge.specs.Tracks.{HaveTaken}
use Rattle.session_judge.proofs.taking.feed_parts.Goals as goal

pub returns-in_ok-take_waiting-in-Ok-clause-ok : goal.returns-in_ok-take_waiting-in-Ok-clause-ok
returns-in_ok-take_waiting-in-Ok-clause-ok g c = λ form bytes h.
    let all = bytes ++ c.args.piece.now in
    let some = piece_taken session_rules (HaveTaken g.S.Store.holds) form true bytes all c.args.reader.now c.feed.new.self c.args.tracks.now (λ n f. c.feed.ensures.fed form bytes n f) (λ n e. c.feed.ensures.stays form bytes n e) (sym c.in-Ok.ensures.fault) h in
    let there = subst (λ (t : Bool). TakesSome g.S.Store.holds form (not t) all c.feed.new.self c.args.tracks.now) (sym c.feed.ensures.open) some in
    subst (λ (t : Bool). TakesAll g.S.Store.holds form (not t) all c.take_waiting.new.reader c.take_waiting.new.tracks) c.feed.ensures.open (c.in_ok-take_waiting-in-Ok.ensures.all form all there)
