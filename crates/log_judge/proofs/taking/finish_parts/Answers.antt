use Rattle.std.proofs.Common.{Bool, false, not, length, sym, subst}
use Rattle.event_log.specs.Logs.{log_rules}
use Rattle.trace_judge.specs.Tracks as track
use Rattle.log_judge.specs.Judged.{IsJudgeFault}
use Rattle.log_judge.specs.Taking.{TakesSome, TakesAll}
use Rattle.log_judge.proofs.Faults.{answered_fault}
use Rattle.log_judge.proofs.Takings.{piece_taken, log_taken}
use Rattle.log_judge.proofs.taking.finish_parts.Goals as goal

pub returns-in_ok-take_waiting-in-Ok-clause-ok : goal.returns-in_ok-take_waiting-in-Ok-clause-ok
returns-in_ok-take_waiting-in-Ok-clause-ok g c = λ x form budget b h.
    let some = piece_taken log_rules (track.Fed g.S.Store.holds c.args.nets.now x budget) form false b b c.args.reader.now c.finish.new.self c.args.track.now (λ n f. c.finish.ensures.fed form b n f) (λ n e. c.finish.ensures.stays form b n e) (sym c.in-Ok.ensures.fault) h in
    let there = subst (λ (t : Bool). TakesSome g.S.Store.holds c.args.nets.now x form budget (not t) b c.finish.new.self c.args.track.now) (sym c.finish.ensures.finished) some in
    let all = subst (λ (t : Bool). TakesAll g.S.Store.holds c.args.nets.now x form budget (not t) b c.take_waiting.new.reader c.take_waiting.new.track) c.finish.ensures.finished (c.in_ok-take_waiting-in-Ok.ensures.all x form budget b there) in
    log_taken log_rules (track.Fed g.S.Store.holds c.args.nets.now x budget) form b c.args.reader.now c.take_waiting.new.reader c.args.track.now c.take_waiting.new.track (λ n f. c.in-Ok.ensures.decided form b n f) h all

pub returns-in-Err-clause-err : goal.returns-in-Err-clause-err
returns-in-Err-clause-err g c = λ x form budget b h.
    subst (IsJudgeFault form false b) (sym c.fault_of.ensures) (answered_fault log_rules c.in-Err.fault form false b (c.in-Err.ensures.decided form b (length h.events) h.has.fed))
