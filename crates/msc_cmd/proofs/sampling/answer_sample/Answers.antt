use Rattle.std.proofs.Common.{◌≡◌, rules, subst}
use Rattle.event_log.specs.declared.event.LogForm.TheVariants.{Lines}
use Rattle.msc_base.specs.declared.limits.TheConstants.Limits.{BUDGET_DEFAULT}
use Rattle.msc_cmd.specs.declared.sample_log.Sampled.{Sampled}
use Rattle.msc_cmd.specs.declared.sample_log.Sampled.TheVariants.{Refused}
use Rattle.msc_cmd.specs.Samples.{sample_log, sample_name}
use Rattle.msc_cmd.specs.Sampling.{IsSampled}
use Rattle.msc_cmd.proofs.SampleReplies.{refusal_told}
use Rattle.msc_cmd.proofs.sampling.answer_sample.Goals as goal

pub returns-in-Refused-clause-outcome : goal.returns-in-Refused-clause-outcome
returns-in-Refused-clause-outcome c = λ seed table h.
    let is : c.args.sampled.now ≡ Refused c.in-Refused.fault = search rules in
    let fault : IsSampled c.args.turns seed table (Refused c.in-Refused.fault) = subst (λ (s : Sampled). IsSampled c.args.turns seed table s) is h in
    refusal_told c.args.turns seed table c.in-Refused.fault c.answer_log.result fault.1
    (c.answer_log.ensures.outcome table sample_name Lines BUDGET_DEFAULT (sample_log c.args.turns seed) fault)
