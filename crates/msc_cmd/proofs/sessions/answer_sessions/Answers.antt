use Rattle.std.proofs.Common.{◌≡◌, ◌∙◌, ap, rules, subst}
use Rattle.msc_cmd.specs.SessionJudging.{AreJudged}
use Rattle.msc_cmd.specs.declared.session_reading.SessionsJudged.{SessionsJudged}
use Rattle.msc_cmd.specs.declared.session_reading.SessionsJudged.TheVariants.{Told, Refused}
use Rattle.msc_cmd.specs.SessionOutcomes.{worst_status}
use Rattle.msc_cmd.proofs.Replies.{five_small, five_not_two}
use Rattle.msc_cmd.proofs.SessionReplies.{sessions_one, faulty_sessions_told}
use Rattle.msc_cmd.proofs.sessions.answer_sessions.Goals as goal

pub returns-in_ok-text-in-Told-clause-outcome : goal.returns-in_ok-text-in-Told-clause-outcome
returns-in_ok-text-in-Told-clause-outcome c =
    let is : c.args.judged.now ≡ Told c.in-Told.answers = search rules in
    λ setting bytes h. sessions_one setting bytes c.in-Told.answers c.worst_status.result c.in_ok-text-in-Told.text (subst (λ (j : SessionsJudged). AreJudged setting bytes j) is h) (c.worst_status.ensures.status ∙ ap worst_status c.as_slice.ensures) c.in_ok-text-in-Told.ensures

pub returns-in-Refused-clause-small : goal.returns-in-Refused-clause-small
returns-in-Refused-clause-small c = five_small _ c.make_reply.ensures.status

pub returns-in-Refused-clause-not_two : goal.returns-in-Refused-clause-not_two
returns-in-Refused-clause-not_two c = five_not_two _ c.make_reply.ensures.status

pub returns-in-Refused-clause-outcome : goal.returns-in-Refused-clause-outcome
returns-in-Refused-clause-outcome c =
    let is : c.args.judged.now ≡ Refused c.in-Refused.fault = search rules in
    λ setting bytes h. faulty_sessions_told setting bytes c.in-Refused.fault _ c.make_reply.ensures.status c.make_reply.ensures.text (subst (λ (j : SessionsJudged). AreJudged setting bytes j) is h)
