use Rattle.std.proofs.Common.{false, subst}
use Rattle.log_judge.specs.Judged.{IsJudgeFault}
use Rattle.msc_cmd.specs.declared.log_reading.Judged.TheVariants.{Told, Refused}
use Rattle.msc_cmd.proofs.LogTaking.{log_end}
use Rattle.msc_cmd.proofs.log_reading.verdict_of.Goals as goal

pub returns-in-Ok-clause-log : goal.returns-in-Ok-clause-log
returns-in-Ok-clause-log c = λ setting files name h.
    log_end setting files name c.args.judge (Told c.in-Ok.verdict) (λ bytes k. c.in-Ok.ensures.verdict setting.table setting.chart setting.form setting.budget bytes k) h

pub returns-in-Err-Log-clause-log : goal.returns-in-Err-Log-clause-log
returns-in-Err-Log-clause-log c = λ setting files name h.
    log_end setting files name c.args.judge (Refused c.in-Err-Log.fault)
    (λ bytes k. subst (IsJudgeFault setting.form false bytes) c.in-Err-Log.field-0-is (c.in-Err-Log.ensures.fault setting.table setting.chart setting.form setting.budget bytes k)) h
