use Rattle.std.proofs.Common.{◌≡◌, rules, subst}
use Rattle.msc_cmd.specs.LogJudging.{IsJudged, IsWanted}
use Rattle.msc_cmd.specs.declared.log_reading.Judged.{Judged}
use Rattle.msc_cmd.specs.declared.log_reading.Judged.TheVariants.{Told, Next, Refused}
use Rattle.msc_cmd.proofs.Replies.{five_small, five_not_two, fault_told, verdict_told, next_told}
use Rattle.msc_cmd.proofs.answer.answer_log.Goals as goal

pub returns-in-Told-clause-outcome : goal.returns-in-Told-clause-outcome
returns-in-Told-clause-outcome c =
    let is : c.args.judged.now ≡ Told c.in-Told.verdict = search rules in
    λ table name form budget bytes h.
    verdict_told c.args.wanted form budget c.args.json table name bytes c.in-Told.verdict c.answer_verdict.result (subst (λ (j : Judged). IsWanted c.args.wanted j) is c.requires.wanted)
    (subst (λ (j : Judged). IsJudged table name form budget bytes j) is h) c.answer_verdict.ensures.told

pub returns-in-Next-clause-outcome : goal.returns-in-Next-clause-outcome
returns-in-Next-clause-outcome c =
    let is : c.args.judged.now ≡ Next c.in-Next.next = search rules in
    λ table name form budget bytes h.
    next_told c.args.wanted form budget c.args.json table name bytes c.in-Next.next c.answer_next.result (subst (λ (j : Judged). IsWanted c.args.wanted j) is c.requires.wanted)
    (subst (λ (j : Judged). IsJudged table name form budget bytes j) is h) c.answer_next.ensures.told

pub returns-in-Refused-clause-small : goal.returns-in-Refused-clause-small
returns-in-Refused-clause-small c = five_small _ c.make_reply.ensures.status

pub returns-in-Refused-clause-not_two : goal.returns-in-Refused-clause-not_two
returns-in-Refused-clause-not_two c = five_not_two _ c.make_reply.ensures.status

pub returns-in-Refused-clause-outcome : goal.returns-in-Refused-clause-outcome
returns-in-Refused-clause-outcome c =
    let is : c.args.judged.now ≡ Refused c.in-Refused.fault = search rules in
    λ table name form budget bytes h.
    fault_told c.args.wanted form budget c.args.json table name bytes c.in-Refused.fault _ c.make_reply.ensures.status c.make_reply.ensures.text (subst (λ (j : Judged). IsJudged table name form budget bytes j) is h)
