use Rattle.std.proofs.Common.{◌++◌, false, subst}
use Rattle.log_judge.specs.Judged.{IsJudgeFault}
use Rattle.msc_cmd.proofs.log_reading.FedJudgeConsumer.take.Goals as goal

pub returns-in-Err-Log : goal.returns-in-Err-Log
returns-in-Err-Log c = λ setting bytes h more.
    subst (IsJudgeFault setting.form false ((bytes ++ c.args.piece.now) ++ more)) c.in-Err-Log.field-0-is (c.in-Err-Log.ensures.refused setting.table setting.chart setting.form setting.budget bytes h more)
