use Rattle.std.proofs.Common.{◌≡◌, true, false, refl, rules}
use Rattle.event_log.specs.declared.event.LogForm.TheVariants.{Lines}
use Rattle.msc_base.specs.declared.limits.TheConstants.Limits.{BUDGET_DEFAULT}
use Rattle.msc_cmd.specs.Samples.{sample_log, sample_name}
use Rattle.msc_cmd.specs.Sampling.{does_conform}
use Rattle.msc_cmd.proofs.SampleReplies.{conforms_told, verdict_told}
use Rattle.msc_cmd.proofs.sampling.answer_told.Goals as goal

pub returns-in_ok-text-clause-outcome : goal.returns-in_ok-text-clause-outcome
returns-in_ok-text-clause-outcome c = λ seed table h.
    let conforms : does_conform c.args.verdict ≡ true = search rules in
    conforms_told c.largest_weights_are_told.ensures c.args.turns seed table c.args.verdict c.args.yes c.args.largest (record { status = 0; text = c.in_ok-text.text }) c.requires.some conforms refl c.in_ok-text.ensures h

pub returns-else-does_conform-clause-outcome : goal.returns-else-does_conform-clause-outcome
returns-else-does_conform-clause-outcome c = λ seed table h.
    let other : does_conform c.args.verdict ≡ false = search rules in
    verdict_told c.args.turns seed table c.args.verdict c.args.yes c.args.largest c.answer_log.result other h
    (c.answer_log.ensures.outcome table sample_name Lines BUDGET_DEFAULT (sample_log c.args.turns seed) h.verdict_is)
