use Rattle.std.proofs.Common.{◌≡◌, Bool, List, Result, Err, IfErr, rules, false, not, length, sym, subst}
use Rattle.msc_base.specs.declared.label.Label.{Label}
use Rattle.event_log.specs.Logs.{log_rules}
use Rattle.log_judge.specs.Judged.{IsJudgeFault}
use Rattle.log_judge.specs.declared.fault.JudgeFault.{JudgeFault}
use Rattle.log_judge.specs.declared.fault.JudgeFault.TheVariants.{NoMemory}
use Rattle.log_judge.proofs.Faults.{answered_fault}
use Rattle.log_judge.proofs.Takings.{piece_taken, log_taken}
use Rattle.numbered_log.specs.States.{AreOf, TakesSome, TakesAll}
use Rattle.numbered_log.proofs.taking.finish_parts.Goals as goal

pub returns-in_ok-take_waiting-in-Ok-clause-ok : goal.returns-in_ok-take_waiting-in-Ok-clause-ok
returns-in_ok-take_waiting-in-Ok-clause-ok c = λ form b h.
    let table = c.args.reader.now.labels in
    let some = piece_taken log_rules (AreOf table) form false b b c.args.reader.now c.finish.new.self c.args.numbers.now.items (λ n f. c.finish.ensures.fed form b n f) (λ n e. c.finish.ensures.stays form b n e) (sym c.in-Ok.ensures.fault) h in
    let there = subst (λ (t : Bool). TakesSome table form (not t) b c.finish.new.self c.args.numbers.now.items) (sym c.finish.ensures.finished) some in
    let named = subst (λ (l : List Label). TakesSome l form (not c.finish.new.self.finished) b c.finish.new.self c.args.numbers.now.items) (sym c.finish.ensures.labels) there in
    let taken = c.in_ok-take_waiting-in-Ok.ensures.all form b named in
    let all = subst (λ (l : List Label). TakesAll l form false b c.take_waiting.new.reader c.take_waiting.new.numbers.items) c.finish.ensures.labels
    (subst (λ (t : Bool). TakesAll c.finish.new.self.labels form (not t) b c.take_waiting.new.reader c.take_waiting.new.numbers.items) c.finish.ensures.finished taken) in
    log_taken log_rules (AreOf table) form b c.args.reader.now c.take_waiting.new.reader c.args.numbers.now.items c.take_waiting.new.numbers.items (λ n f. c.in-Ok.ensures.decided form b n f) h all

pub returns-in-Err-clause-err : goal.returns-in-Err-clause-err
returns-in-Err-clause-err c = λ form b h.
    subst (IsJudgeFault form false b) (sym c.fault_of.ensures) (answered_fault log_rules c.in-Err.fault form false b (c.in-Err.ensures.decided form b (length h.events) h.has.fed))

pub returns-in_err-take_waiting-in-Ok-clause-err : goal.returns-in_err-take_waiting-in-Ok-clause-err
returns-in_err-take_waiting-in-Ok-clause-err c = λ form b h.
    let failed : c.from_residual.result ≡ Err NoMemory = search rules in
    subst (λ (r : Result (Unit {0}) JudgeFault). IfErr r (IsJudgeFault form false b)) (sym failed) tt
