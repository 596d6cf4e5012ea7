use Rattle.std.proofs.Common.{◌≡◌, [], false, subst}
use Rattle.event_log.specs.declared.event.LogForm.TheVariants.{Lines}
use Rattle.log_judge.specs.Judged.{IsJudgeFault}
use Rattle.chart_judge.specs.Judging.{IsJudging}
use Rattle.msc_base.specs.declared.limits.TheConstants.Limits.{BUDGET_DEFAULT}
use Rattle.msc_meaning.specs.Views.{table_view}
use Rattle.msc_cmd.specs.Samples.{sample_log, sample_name}
use Rattle.msc_cmd.proofs.sample_log.judge_turns.Goals as goal

pub returns-in-Ok : goal.returns-in-Ok
returns-in-Ok c =
    let judging = subst (λ n. IsJudging (table_view c.args.accepted.now) n Lines BUDGET_DEFAULT [] c.in_ok-judge.judge) c.as_bytes-name.ensures.value c.in_ok-judge.ensures in
    c.in-Ok.ensures.told (table_view c.args.accepted.now) judging

pub returns-in-Err-Log : goal.returns-in-Err-Log
returns-in-Err-Log c =
    let judging = subst (λ n. IsJudging (table_view c.args.accepted.now) n Lines BUDGET_DEFAULT [] c.in_ok-judge.judge) c.as_bytes-name.ensures.value c.in_ok-judge.ensures in
    subst (IsJudgeFault Lines false (sample_log c.args.turns c.args.seed)) c.in-Err-Log.field-0-is (c.in-Err-Log.ensures.refused (table_view c.args.accepted.now) judging)
