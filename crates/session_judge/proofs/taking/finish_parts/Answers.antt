use Rattle.std.proofs.Common.{◌≡◌, Result, Err, IfErr, rules, Bool, false, not, length, sym, subst}
use Rattle.session_log.specs.Sessions.{session_rules}
use Rattle.log_judge.specs.RuledFaults.{IsJudgeFault}
use Rattle.log_judge.proofs.Faults.{answered_fault}
use Rattle.log_judge.proofs.Takings.{piece_taken, log_taken}
use Rattle.log_judge.specs.declared.fault.JudgeFault.{JudgeFault}
use Rattle.log_judge.specs.declared.fault.JudgeFault.TheVariants.{NoMemory}
use Rattle.session_judge.specs.States.{TakesSome, TakesAll}
use Rattle.session_judge.specs.Tracks.{HaveTaken}
use Rattle.session_judge.proofs.taking.finish_parts.Goals as goal

pub returns-in_ok-take_waiting-in-Ok-clause-ok : goal.returns-in_ok-take_waiting-in-Ok-clause-ok
returns-in_ok-take_waiting-in-Ok-clause-ok g c = λ form b h.
    let some = piece_taken session_rules (HaveTaken g.S.Store.holds) form false b b c.args.reader.now c.finish.new.self c.args.tracks.now (λ n f. c.finish.ensures.fed form b n f) (λ n e. c.finish.ensures.stays form b n e) (sym c.in-Ok.ensures.fault) h in
    let there = subst (λ (t : Bool). TakesSome g.S.Store.holds form (not t) b c.finish.new.self c.args.tracks.now) (sym c.finish.ensures.finished) some in
    let all = subst (λ (t : Bool). TakesAll g.S.Store.holds form (not t) b c.take_waiting.new.reader c.take_waiting.new.tracks) c.finish.ensures.finished (c.in_ok-take_waiting-in-Ok.ensures.all form b there) in
    log_taken session_rules (HaveTaken g.S.Store.holds) form b c.args.reader.now c.take_waiting.new.reader c.args.tracks.now c.take_waiting.new.tracks (λ n f. c.in-Ok.ensures.decided form b n f) h all

pub returns-in-Err-clause-err : goal.returns-in-Err-clause-err
returns-in-Err-clause-err g c = λ form b h.
    subst (IsJudgeFault session_rules form false b) (sym c.fault_of.ensures) (answered_fault session_rules c.in-Err.fault form false b (c.in-Err.ensures.decided form b (length h.events) h.has.fed))

pub returns-in_err-take_waiting-in-Ok-clause-err : goal.returns-in_err-take_waiting-in-Ok-clause-err
returns-in_err-take_waiting-in-Ok-clause-err g c = λ form b h.
    let failed : c.from_residual.result ≡ Err NoMemory = search rules in
    subst (λ (r : Result _ JudgeFault). IfErr r (IsJudgeFault session_rules form false b)) (sym failed) tt
