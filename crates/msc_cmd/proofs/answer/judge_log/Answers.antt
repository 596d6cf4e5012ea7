use Rattle.msc_meaning.specs.Views.{table_view}
use Rattle.msc_cmd.specs.LogJudging.{IsJudgedLog}
use Rattle.msc_cmd.specs.Outcomes.{LogAnswer}
use Rattle.msc_cmd.proofs.Replies.{log_told, told_log}
use Rattle.msc_cmd.proofs.answer.judge_log.Goals as goal

pub answer_log-requires-clause-told : goal.answer_log-requires-clause-told
answer_log-requires-clause-told g c =
    let log : IsJudgedLog (record { table = table_view c.args.accepted.now; chart = c.args.chart.now; form = c.args.style.form; budget = c.args.style.budget }) (g.S.Shelf.files c.args.shelf.now) c.args.log.now c.in-Ok.judged = c.in-Ok.ensures.log in
    told_log (table_view c.args.accepted.now) c.args.chart.now c.args.style.form c.args.style.budget log.bytes c.in-Ok.judged log.is

pub returns-clause-outcome : goal.returns-clause-outcome
returns-clause-outcome g c =
    let log : IsJudgedLog (record { table = table_view c.args.accepted.now; chart = c.args.chart.now; form = c.args.style.form; budget = c.args.style.budget }) (g.S.Shelf.files c.args.shelf.now) c.args.log.now c.in-Ok.judged = c.in-Ok.ensures.log in
    log_told (g.S.Shelf.files c.args.shelf.now) c.args.log.now log.bytes (LogAnswer c.args.style.wanted c.args.style.form c.args.style.budget c.args.style.json c.args.chart.now (table_view c.args.accepted.now)) c.answer_log.result log.held
    (c.answer_log.ensures.outcome (table_view c.args.accepted.now) c.args.chart.now c.args.style.form c.args.style.budget log.bytes log.is)
