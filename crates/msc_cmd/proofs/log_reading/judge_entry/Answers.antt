use Rattle.std.proofs.Common.{◌≡◌, ℕ, List, Option, None, Some, MatchOption, rules, subst}
use Rattle.msc_meaning.specs.Views.{table_view}
use Rattle.entry_reading.specs.Consuming.{HasTakenEntry, IsRefusedEntry}
use Rattle.event_log.specs.declared.event.LogFault.{LogFault}
use Rattle.msc_cmd.specs.LogJudging.{JudgeSetting, IsFed, IsRefusedLog}
use Rattle.msc_cmd.specs.declared.log_reading.FedJudge.{FedJudge}
use Rattle.msc_cmd.proofs.LogTaking.{fed_entry, log_refused}
use Rattle.msc_cmd.proofs.log_reading.judge_entry.Goals as goal

pub read_entry-requires : goal.read_entry-requires
read_entry-requires g c =
    let setting : JudgeSetting = record { table = table_view c.args.accepted.now; chart = c.args.chart.now; form = c.args.form; budget = c.args.budget } in
    record { made = (setting, c.in_ok-judge.ensures) }

pub returns-in-None-clause-log : goal.returns-in-None-clause-log
returns-in-None-clause-log g c =
    let setting : JudgeSetting = record { table = table_view c.args.accepted.now; chart = c.args.chart.now; form = c.args.form; budget = c.args.budget } in
    let none : c.in_ok-read_entry.field-0 ≡ None = search rules in
    let taken = subst (λ (o : Option LogFault). MatchOption o (HasTakenEntry (λ bytes (f : FedJudge). IsFed setting bytes f.judge) (g.S.Shelf.files c.args.shelf.now) c.args.name.now c.read_entry.new.consumer) (IsRefusedEntry (λ (bytes : List ℕ) (fault : LogFault). IsRefusedLog setting.form bytes fault) (g.S.Shelf.files c.args.shelf.now) c.args.name.now)) none
    (c.in_ok-read_entry.ensures.taken setting c.in_ok-judge.ensures) in
    c.ended.ensures.log setting (g.S.Shelf.files c.args.shelf.now) c.args.name.now (fed_entry setting (g.S.Shelf.files c.args.shelf.now) c.args.name.now c.read_entry.new.consumer taken)

pub returns-in-Some-clause-log : goal.returns-in-Some-clause-log
returns-in-Some-clause-log g c =
    let setting : JudgeSetting = record { table = table_view c.args.accepted.now; chart = c.args.chart.now; form = c.args.form; budget = c.args.budget } in
    let some : c.in_ok-read_entry.field-0 ≡ Some c.in-Some.fault = search rules in
    let refused = subst (λ (o : Option LogFault). MatchOption o (HasTakenEntry (λ bytes (f : FedJudge). IsFed setting bytes f.judge) (g.S.Shelf.files c.args.shelf.now) c.args.name.now c.read_entry.new.consumer) (IsRefusedEntry (λ (bytes : List ℕ) (fault : LogFault). IsRefusedLog setting.form bytes fault) (g.S.Shelf.files c.args.shelf.now) c.args.name.now)) some
    (c.in_ok-read_entry.ensures.taken setting c.in_ok-judge.ensures) in
    log_refused setting (g.S.Shelf.files c.args.shelf.now) c.args.name.now c.in-Some.fault refused
