use Rattle.std.proofs.Common.{◌≡◌, ℕ, List, Option, None, Some, MatchOption, rules, subst}
use Rattle.msc_meaning.specs.Views.{table_view}
use Rattle.entry_reading.specs.Consuming.{HasTakenEntry, IsRefusedEntry}
use Rattle.event_log.specs.declared.event.LogFault.{LogFault}
use Rattle.msc_cmd.specs.LogJudging.{JudgeSetting}
use Rattle.msc_cmd.specs.SessionJudging.{AreFed, AreRefused}
use Rattle.msc_cmd.specs.declared.session_reading.FedSessions.{FedSessions}
use Rattle.msc_cmd.proofs.SessionReplies.{fed_sessions, sessions_refused}
use Rattle.msc_cmd.proofs.session_reading.judge_sessions.Goals as goal

pub read_entry-requires : goal.read_entry-requires
read_entry-requires g c =
    let setting : JudgeSetting = record { table = table_view c.args.accepted.now; chart = c.args.chart.now; form = c.args.form; budget = c.args.budget } in
    record { made = (setting, c.in_ok-sessions.ensures) }

pub returns-in-None-clause-log : goal.returns-in-None-clause-log
returns-in-None-clause-log g c =
    let setting : JudgeSetting = record { table = table_view c.args.accepted.now; chart = c.args.chart.now; form = c.args.form; budget = c.args.budget } in
    let none : c.in_ok-read_entry.field-0 ≡ None = search rules in
    let taken = subst (λ (o : Option LogFault). MatchOption o (HasTakenEntry (λ bytes (f : FedSessions). AreFed setting bytes f.sessions) (g.S.Shelf.files c.args.shelf.now) c.args.name.now c.read_entry.new.consumer) (IsRefusedEntry (λ (bytes : List ℕ) (fault : LogFault). AreRefused setting.form bytes fault) (g.S.Shelf.files c.args.shelf.now) c.args.name.now)) none
    (c.in_ok-read_entry.ensures.taken setting c.in_ok-sessions.ensures) in
    c.verdicts_of.ensures.log setting (g.S.Shelf.files c.args.shelf.now) c.args.name.now (fed_sessions setting (g.S.Shelf.files c.args.shelf.now) c.args.name.now c.read_entry.new.consumer taken)

pub returns-in-Some-clause-log : goal.returns-in-Some-clause-log
returns-in-Some-clause-log g c =
    let setting : JudgeSetting = record { table = table_view c.args.accepted.now; chart = c.args.chart.now; form = c.args.form; budget = c.args.budget } in
    let some : c.in_ok-read_entry.field-0 ≡ Some c.in-Some.fault = search rules in
    let refused = subst (λ (o : Option LogFault). MatchOption o (HasTakenEntry (λ bytes (f : FedSessions). AreFed setting bytes f.sessions) (g.S.Shelf.files c.args.shelf.now) c.args.name.now c.read_entry.new.consumer) (IsRefusedEntry (λ (bytes : List ℕ) (fault : LogFault). AreRefused setting.form bytes fault) (g.S.Shelf.files c.args.shelf.now) c.args.name.now)) some
    (c.in_ok-read_entry.ensures.taken setting c.in_ok-sessions.ensures) in
    sessions_refused setting (g.S.Shelf.files c.args.shelf.now) c.args.name.now c.in-Some.fault refused
