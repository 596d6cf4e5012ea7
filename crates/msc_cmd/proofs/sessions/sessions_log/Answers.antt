use Rattle.msc_meaning.specs.Views.{table_view}
use Rattle.msc_cmd.specs.LogJudging.{JudgeSetting}
use Rattle.msc_cmd.specs.SessionJudging.{IsJudgedEntry}
use Rattle.msc_cmd.specs.SessionOutcomes.{SessionsAnswer}
use Rattle.msc_cmd.proofs.Replies.{log_told}
use Rattle.msc_cmd.proofs.SessionReplies.{told_of_sessions}
use Rattle.msc_cmd.proofs.sessions.sessions_log.Goals as goal

pub answer_sessions-requires : goal.answer_sessions-requires
answer_sessions-requires g c =
    let setting : JudgeSetting = record { table = table_view c.args.accepted.now; chart = c.args.chart.now; form = c.args.form; budget = c.args.budget } in
    let log : IsJudgedEntry setting (g.S.Shelf.files c.args.shelf.now) c.args.log.now c.in-Ok.judged = c.in-Ok.ensures.log in
    record { told = told_of_sessions setting log.bytes c.in-Ok.judged log.is }

pub returns-clause-outcome : goal.returns-clause-outcome
returns-clause-outcome g c =
    let setting : JudgeSetting = record { table = table_view c.args.accepted.now; chart = c.args.chart.now; form = c.args.form; budget = c.args.budget } in
    let log : IsJudgedEntry setting (g.S.Shelf.files c.args.shelf.now) c.args.log.now c.in-Ok.judged = c.in-Ok.ensures.log in
    log_told (g.S.Shelf.files c.args.shelf.now) c.args.log.now log.bytes (SessionsAnswer c.args.form c.args.budget c.args.chart.now (table_view c.args.accepted.now)) c.answer_sessions.result log.held (c.answer_sessions.ensures.outcome setting log.bytes log.is)
