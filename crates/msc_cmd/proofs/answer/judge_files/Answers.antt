use Rattle.std.proofs.Common.{◌≡◌, ◌<◌, ◌∙◌, rules, sym, subst, IfOk, None}
use Rattle.msc_cmd.specs.declared.document.Document.TheVariants.{Charts}
use Rattle.msc_cmd.specs.declared.opening.Opened.TheVariants.{Told}
use Rattle.msc_meaning.specs.Tables.{chart_at}
use Rattle.msc_meaning.specs.Views.{table_view}
use Rattle.msc_cmd.specs.Documents.{HasChartNamed}
use Rattle.msc_cmd.specs.Intakes.{IsDocumentOf}
use Rattle.msc_cmd.specs.Openings.{IsOpened}
use Rattle.msc_cmd.specs.Outcomes.{IfTold, IsTheOne, EntryOutcome, JudgeAnswer, LogAnswer}
use Rattle.msc_cmd.proofs.Replies.{told_outcome, no_chart_told, judged_told, log_failed}
use Rattle.msc_cmd.proofs.answer.judge_files.Goals as goal

pub returns-in-Told-clause-outcome : goal.returns-in-Told-clause-outcome
returns-in-Told-clause-outcome g c =
    let h : IsOpened c.args.style.json (g.S.Shelf.files c.args.shelf.now) (g.S.Shelf.faults c.args.shelf.now) (g.S.Shelf.faults c.open_document.new.shelf) (g.S.Shelf.broken c.open_document.new.shelf) (g.S.Shelf.last c.open_document.new.shelf) c.args.document.now (Told c.in-Told.reply) = search rules in
    told_outcome c.args.style.json _ _ _ _ _ c.args.document.now c.in-Told.reply (λ f. JudgeAnswer c.args.style.json f c.args.name.now c.args.log.now (LogAnswer c.args.style.wanted c.args.style.form c.args.style.budget c.args.style.json c.args.name.now)) h

pub judge_log-requires-clause-there : goal.judge_log-requires-clause-there
judge_log-requires-clause-there g c = subst (HasChartNamed (table_view c.in-Accepted.accepted)) (c.bytes.ensures ∙ sym c.bytes-2.ensures) (c.has_chart.ensures.there (search rules))

pub returns-clause-outcome : goal.returns-clause-outcome
returns-clause-outcome g c =
    let h : IsDocumentOf (g.S.Shelf.files c.args.shelf.now) c.args.document.now (Charts c.in-Accepted.accepted) = search rules in
    let chart : HasChartNamed (table_view c.in-Accepted.accepted) c.args.name.now = subst (HasChartNamed (table_view c.in-Accepted.accepted)) c.bytes.ensures (c.has_chart.ensures.there (search rules)) in
    let name : c.bytes-2.result.now ≡ c.args.name.now = c.bytes-2.ensures in
    let judged : IfOk c.judge_log.result (λ x. x.status < 7 → IfTold (g.S.Shelf.files c.args.shelf.now) (λ f. IsTheOne (EntryOutcome f c.args.log.now (LogAnswer c.args.style.wanted c.args.style.form c.args.style.budget c.args.style.json c.args.name.now (table_view c.in-Accepted.accepted))) x.status x.text)) =
    subst (λ n. IfOk c.judge_log.result (λ x. x.status < 7 → IfTold (g.S.Shelf.files c.args.shelf.now) (λ f. IsTheOne (EntryOutcome f c.args.log.now (LogAnswer c.args.style.wanted c.args.style.form c.args.style.budget c.args.style.json n (table_view c.in-Accepted.accepted))) x.status x.text))) name
    (subst (λ files. IfOk c.judge_log.result (λ x. x.status < 7 → IfTold files (λ f. IsTheOne (EntryOutcome f c.args.log.now (LogAnswer c.args.style.wanted c.args.style.form c.args.style.budget c.args.style.json c.bytes-2.result.now (table_view c.in-Accepted.accepted))) x.status x.text))) c.open_document.ensures.files c.judge_log.ensures.outcome) in
    judged_told c.args.style.json _ _ _ _ h.bytes (LogAnswer c.args.style.wanted c.args.style.form c.args.style.budget c.args.style.json c.args.name.now) (table_view c.in-Accepted.accepted) chart.0 _ h.held h.is chart.1 judged

pub returns-clause-failed : goal.returns-clause-failed
returns-clause-failed g c =
    let h : IsDocumentOf (g.S.Shelf.files c.args.shelf.now) c.args.document.now (Charts c.in-Accepted.accepted) = search rules in
    let chart : HasChartNamed (table_view c.in-Accepted.accepted) c.args.name.now = subst (HasChartNamed (table_view c.in-Accepted.accepted)) c.bytes.ensures (c.has_chart.ensures.there (search rules)) in
    log_failed c.args.style.json _ _ _ _ h.bytes (table_view c.in-Accepted.accepted) chart.0 _ _ _ _ _ _ h.held h.is.is chart.1 c.open_document.ensures.later c.judge_log.ensures.failed c.judge_log.ensures.text

pub returns-then-not-has_chart-clause-outcome : goal.returns-then-not-has_chart-clause-outcome
returns-then-not-has_chart-clause-outcome g c =
    let h : IsDocumentOf (g.S.Shelf.files c.args.shelf.now) c.args.document.now (Charts c.in-Accepted.accepted) = search rules in
    let lacks : chart_at (table_view c.in-Accepted.accepted) c.args.name.now ≡ None = subst (λ n. chart_at (table_view c.in-Accepted.accepted) n ≡ None) c.bytes.ensures (c.has_chart.ensures.lacks (search rules)) in
    no_chart_told c.args.style.json _ _ _ _ h.bytes (LogAnswer c.args.style.wanted c.args.style.form c.args.style.budget c.args.style.json c.args.name.now) (table_view c.in-Accepted.accepted) _ h.held h.is lacks c.make_reply.ensures.status c.make_reply.ensures.text
