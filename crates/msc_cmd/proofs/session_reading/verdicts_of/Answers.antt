use Rattle.std.proofs.Common.{false, subst}
use Rattle.log_judge.specs.RuledFaults.{IsJudgeFault}
use Rattle.session_log.specs.Sessions.{session_rules}
use Rattle.msc_cmd.specs.declared.session_reading.SessionsJudged.TheVariants.{Told, Refused}
use Rattle.msc_cmd.proofs.SessionReplies.{sessions_end}
use Rattle.msc_cmd.proofs.session_reading.verdicts_of.Goals as goal

pub returns-in-Ok-clause-log : goal.returns-in-Ok-clause-log
returns-in-Ok-clause-log c = λ setting files name h.
    sessions_end setting files name c.args.sessions (Told c.in-Ok.verdicts) (λ bytes k. c.in-Ok.ensures.verdicts setting.table setting.chart setting.form setting.budget bytes k) h

pub returns-in-Err-Log-clause-log : goal.returns-in-Err-Log-clause-log
returns-in-Err-Log-clause-log c = λ setting files name h.
    sessions_end setting files name c.args.sessions (Refused c.in-Err-Log.fault)
    (λ bytes k. subst (IsJudgeFault session_rules setting.form false bytes) c.in-Err-Log.field-0-is (c.in-Err-Log.ensures.fault setting.table setting.chart setting.form setting.budget bytes k)) h
