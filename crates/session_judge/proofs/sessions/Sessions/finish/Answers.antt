use Rattle.std.proofs.Common.{◌≡◌, List, Result, Ok, Err, IfErr, false, rules, subst, sym}
use Rattle.log_judge.specs.RuledFaults.{IsJudgeFault}
use Rattle.log_judge.specs.declared.fault.JudgeFault.{JudgeFault}
use Rattle.log_judge.specs.declared.fault.JudgeFault.TheVariants.{NoMemory}
use Rattle.session_log.specs.Sessions.{session_rules}
use Rattle.session_judge.specs.declared.verdict.SessionVerdict.{SessionVerdict}
use Rattle.session_judge.proofs.Judging.{judged_are, not_again}
use Rattle.session_judge.proofs.sessions.Sessions.finish.Goals as goal

pub returns-clause-verdicts : goal.returns-clause-verdicts
returns-clause-verdicts g c = λ v x form budget bytes h.
    judged_are g.S.Store.holds v x form budget bytes c.in_ok-tracks.tracks c.in_ok-verdicts.verdicts (λ events taken. c.in_ok-verdicts.ensures events taken) (c.in_ok-tracks.ensures.made v x form budget bytes h) (c.in_ok-tracks.ensures.taken v x form budget bytes h)

pub returns-in_err-tracks-clause-fault : goal.returns-in_err-tracks-clause-fault
returns-in_err-tracks-clause-fault g c = λ v x form budget bytes h.
    let failed : c.from_residual.result ≡ Err c.in_err-tracks.field-0.0 = search rules in
    subst (λ (r : Result (List SessionVerdict) JudgeFault). IfErr r (IsJudgeFault session_rules form false bytes)) (sym failed) (c.in_err-tracks.ensures.fault v x form budget bytes h)

pub returns-in_err-verdicts-clause-fault : goal.returns-in_err-verdicts-clause-fault
returns-in_err-verdicts-clause-fault g c = λ v x form budget bytes h.
    let failed : c.from_residual-in_err-verdicts.result ≡ Err NoMemory = search rules in
    subst (λ (r : Result (List SessionVerdict) JudgeFault). IfErr r (IsJudgeFault session_rules form false bytes)) (sym failed) tt

pub returns-clause-again : goal.returns-clause-again
returns-clause-again g c =
    let ended : c.end.result ≡ Ok c.in_ok-tracks.tracks = search rules in
    not_again c.args.self.fault c.end.result c.in_ok-tracks.tracks (Ok c.in_ok-verdicts.verdicts) ended c.end.ensures.again
