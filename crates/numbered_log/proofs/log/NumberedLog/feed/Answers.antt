use Rattle.std.proofs.Common.{◌≡◌, ◌++◌, ◌∙◌, None, true, rules, sym, ap, subst}
use Rattle.event_log.specs.Logs.{log_rules}
use Rattle.log_judge.proofs.Faults.{behind_on, behind_decided, behind_lasts}
use Rattle.log_judge.proofs.Takings.{takes_decided}
use Rattle.numbered_log.specs.States.{AreOf, Fed, NumberedValue, TakesAll}
use Rattle.msc_base.specs.declared.label.Label.{Label}
use Rattle.std.proofs.Common.{List}
use Rattle.numbered_log.proofs.NumberedLogs.{fault_at, fed_on, going_at}
use Rattle.numbered_log.proofs.log.NumberedLog.feed.Goals as goal

pub returns-in-Some-clause-fed : goal.returns-in-Some-clause-fed
returns-in-Some-clause-fed c = λ table form bytes h.
    fed_on table form bytes c.args.self.now c.args.piece.now c.in-Some.fault (ap (λ (l : NumberedValue). l.fault) (sym c.self.view_is) ∙ c.in-Some.is) h

pub returns-in-Some-clause-decided : goal.returns-in-Some-clause-decided
returns-in-Some-clause-decided c = λ table form bytes h.
    let s = c.args.self.now.reader in
    let b = fault_at table form bytes c.args.self.now c.in-Some.fault (ap (λ (l : NumberedValue). l.fault) (sym c.self.view_is) ∙ c.in-Some.is) h in
    behind_decided log_rules c.in-Some.fault form (bytes ++ c.args.piece.now) s (behind_on log_rules c.in-Some.fault form bytes c.args.piece.now s b)

pub returns-in-Some-clause-lasts : goal.returns-in-Some-clause-lasts
returns-in-Some-clause-lasts c = λ table form bytes h more.
    let s = c.args.self.now.reader in
    let b = fault_at table form bytes c.args.self.now c.in-Some.fault (ap (λ (l : NumberedValue). l.fault) (sym c.self.view_is) ∙ c.in-Some.is) h in
    behind_lasts log_rules c.in-Some.fault form (bytes ++ c.args.piece.now) more s (behind_on log_rules c.in-Some.fault form bytes c.args.piece.now s b)

pub returns-in-Ok-clause-decided : goal.returns-in-Ok-clause-decided
returns-in-Ok-clause-decided c = λ table form bytes h.
    let none : c.self.inside.fault ≡ None = search rules in
    let g = going_at table form bytes _ none (subst (Fed table form bytes) (sym c.self.view_is) h) in
    takes_decided log_rules (AreOf c.self.inside.reader.labels) form (bytes ++ c.args.piece.now) c.feed_parts.new.reader c.feed_parts.new.numbers.items c.in-Ok.ensures.goes_on
    (c.in-Ok.ensures.ok form bytes (subst (λ (l : List Label). TakesAll l form true bytes c.self.inside.reader c.self.inside.numbers.items) (sym g.labels) g.takes))

pub returns-in-Err-clause-decided : goal.returns-in-Err-clause-decided
returns-in-Err-clause-decided c = λ table form bytes h.
    let none : c.self.inside.fault ≡ None = search rules in
    let g = going_at table form bytes _ none (subst (Fed table form bytes) (sym c.self.view_is) h) in
    behind_decided log_rules c.in-Err.fault form (bytes ++ c.args.piece.now) c.feed_parts.new.reader
    (c.in-Err.ensures.err form bytes (subst (λ (l : List Label). TakesAll l form true bytes c.self.inside.reader c.self.inside.numbers.items) (sym g.labels) g.takes))

pub returns-in-Err-clause-lasts : goal.returns-in-Err-clause-lasts
returns-in-Err-clause-lasts c = λ table form bytes h more.
    let none : c.self.inside.fault ≡ None = search rules in
    let g = going_at table form bytes _ none (subst (Fed table form bytes) (sym c.self.view_is) h) in
    behind_lasts log_rules c.in-Err.fault form (bytes ++ c.args.piece.now) more c.feed_parts.new.reader
    (c.in-Err.ensures.err form bytes (subst (λ (l : List Label). TakesAll l form true bytes c.self.inside.reader c.self.inside.numbers.items) (sym g.labels) g.takes))
