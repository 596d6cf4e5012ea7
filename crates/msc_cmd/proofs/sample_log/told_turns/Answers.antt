use Rattle.std.proofs.Common.{◌≡◌, Result, Err, IfErr, false, rules, subst, sym}
use Rattle.event_log.specs.declared.event.LogForm.TheVariants.{Lines}
use Rattle.msc_base.specs.declared.limits.TheConstants.Limits.{BUDGET_DEFAULT}
use Rattle.log_judge.specs.Judged.{IsJudgeFault}
use Rattle.log_judge.specs.declared.fault.JudgeFault.{JudgeFault}
use Rattle.msc_cmd.specs.Samples.{sample_log, sample_name}
use Rattle.msc_cmd.specs.declared.sample_log.Sampled.{Sampled}
use Rattle.msc_cmd.proofs.sample_log.told_turns.Goals as goal

pub returns-in_err-yes-clause-refused : goal.returns-in_err-yes-clause-refused
returns-in_err-yes-clause-refused c = λ table h.
    let failed : c.from_residual.result ≡ Err c.in_err-yes.field-0.0 = search rules in
    subst (λ (r : Result Sampled JudgeFault). IfErr r (IsJudgeFault Lines false (sample_log c.args.turns c.args.seed))) (sym failed) (c.in_err-yes.ensures.refused table h)

pub returns-in_err-verdict-clause-refused : goal.returns-in_err-verdict-clause-refused
returns-in_err-verdict-clause-refused c = λ table h.
    let failed : c.from_residual-in_err-verdict.result ≡ Err c.in_err-verdict.field-0.0 = search rules in
    subst (λ (r : Result Sampled JudgeFault). IfErr r (IsJudgeFault Lines false (sample_log c.args.turns c.args.seed))) (sym failed)
    (c.in_err-verdict.ensures.fault table sample_name Lines BUDGET_DEFAULT (sample_log c.args.turns c.args.seed) (c.in_ok-yes.ensures.fed table h))

pub returns-clause-told : goal.returns-clause-told
returns-clause-told c = λ table h.
    let fed = c.in_ok-yes.ensures.fed table h in
    record {
      verdict_is = c.in_ok-verdict.ensures.verdict table sample_name Lines BUDGET_DEFAULT (sample_log c.args.turns c.args.seed) fed;
      yeses_are = c.in_ok-yes.ensures.yes;
      largest_is = c.largest-largest.ensures table sample_name Lines BUDGET_DEFAULT (sample_log c.args.turns c.args.seed) fed;
    }
