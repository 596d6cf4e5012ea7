use Rattle.std.proofs.Common.{◌≡◌, rules, subst, None}
use Rattle.msc_meaning.specs.Tables.{chart_at}
use Rattle.msc_meaning.specs.Views.{table_view}
use Rattle.msc_cmd.specs.declared.document.Document.TheVariants.{Charts, Refused}
use Rattle.msc_cmd.specs.Documents.{HasChartNamed, IsTheDocument}
use Rattle.msc_cmd.specs.Samples.{sample_name, sample_text}
use Rattle.msc_cmd.proofs.SampleReplies.{can_be_told, chartless_told, sample_told, unaccepted_told}
use Rattle.msc_cmd.proofs.sampling.sample_reply.Goals as goal

pub returns-in-Refused-clause-outcome : goal.returns-in-Refused-clause-outcome
returns-in-Refused-clause-outcome c =
    let is : c.in_ok-accepted.field-0 ≡ Refused c.in-Refused.rule c.in-Refused.place = search rules in
    unaccepted_told c.args.turns c.args.seed c.in-Refused.rule c.in-Refused.place c.make_reply.result (subst (IsTheDocument sample_text) is c.in_ok-accepted.ensures)
    c.make_reply.ensures.status c.make_reply.ensures.text

pub returns-then-not-has_chart-clause-outcome : goal.returns-then-not-has_chart-clause-outcome
returns-then-not-has_chart-clause-outcome c =
    let is : c.in_ok-accepted.field-0 ≡ Charts c.in-Charts.accepted = search rules in
    let lacks : chart_at (table_view c.in-Charts.accepted) sample_name ≡ None = subst (λ n. chart_at (table_view c.in-Charts.accepted) n ≡ None) c.as_bytes.ensures.value (c.has_chart.ensures.lacks (search rules)) in
    chartless_told c.args.turns c.args.seed (table_view c.in-Charts.accepted) c.make_reply-then-not-has_chart.result (subst (IsTheDocument sample_text) is c.in_ok-accepted.ensures) lacks
    c.make_reply-then-not-has_chart.ensures.status c.make_reply-then-not-has_chart.ensures.text

pub judge_turns-requires-clause-there : goal.judge_turns-requires-clause-there
judge_turns-requires-clause-there c = subst (HasChartNamed (table_view c.in-Charts.accepted)) c.as_bytes.ensures.value (c.has_chart.ensures.there (search rules))

pub answer_sample-requires-clause-told : goal.answer_sample-requires-clause-told
answer_sample-requires-clause-told c = can_be_told c.args.turns c.args.seed (table_view c.in-Charts.accepted) c.in_ok-sampled.sampled c.in_ok-sampled.ensures

pub returns-clause-outcome : goal.returns-clause-outcome
returns-clause-outcome c =
    let is : c.in_ok-accepted.field-0 ≡ Charts c.in-Charts.accepted = search rules in
    let chart : HasChartNamed (table_view c.in-Charts.accepted) sample_name = subst (HasChartNamed (table_view c.in-Charts.accepted)) c.as_bytes.ensures.value (c.has_chart.ensures.there (search rules)) in
    sample_told c.args.turns c.args.seed (table_view c.in-Charts.accepted) chart.0 c.answer_sample.result (subst (IsTheDocument sample_text) is c.in_ok-accepted.ensures) chart.1
    (c.answer_sample.ensures.outcome c.args.seed (table_view c.in-Charts.accepted) c.in_ok-sampled.ensures)
