use Rattle.std.proofs.Common.{◌++◌, Bool, true, not, sym, subst}
use Rattle.event_log.specs.Logs.{log_rules}
use Rattle.trace_judge.specs.Tracks as track
use Rattle.log_judge.specs.Taking.{TakesSome, TakesAll}
use Rattle.log_judge.proofs.Takings.{piece_taken}
use Rattle.log_judge.proofs.taking.feed_parts.Goals as goal

pub returns-in_ok-take_waiting-in-Ok-clause-ok : goal.returns-in_ok-take_waiting-in-Ok-clause-ok
returns-in_ok-take_waiting-in-Ok-clause-ok g c = λ x form budget bytes h.
    let all = bytes ++ c.args.piece.now in
    let some = piece_taken log_rules (track.Fed g.S.Store.holds c.args.nets.now x budget) form true bytes all c.args.reader.now c.feed.new.self c.args.track.now (λ n f. c.feed.ensures.fed form bytes n f) (λ n e. c.feed.ensures.stays form bytes n e) (sym c.in-Ok.ensures.fault) h in
    let there = subst (λ (t : Bool). TakesSome g.S.Store.holds c.args.nets.now x form budget (not t) all c.feed.new.self c.args.track.now) (sym c.feed.ensures.open) some in
    subst (λ (t : Bool). TakesAll g.S.Store.holds c.args.nets.now x form budget (not t) all c.take_waiting.new.reader c.take_waiting.new.track) c.feed.ensures.open (c.in_ok-take_waiting-in-Ok.ensures.all x form budget all there)
