use Rattle.std.proofs.Common.{◌≡◌, ◌∙◌, List, None, true, rules, sym, ap, subst}
use Rattle.msc_base.specs.declared.label.Label.{Label}
use Rattle.numbered_log.specs.States.{Fed, NumberedValue, TakesAll, TakesLog}
use Rattle.numbered_log.proofs.NumberedLogs.{going_at, whole_fault}
use Rattle.numbered_log.proofs.log.NumberedLog.finish.Goals as goal

pub returns-in-Some-clause-fault : goal.returns-in-Some-clause-fault
returns-in-Some-clause-fault c = λ table form bytes h.
    whole_fault table form bytes c.args.self c.in-Some.fault (ap (λ (l : NumberedValue). l.fault) (sym c.self.view_is) ∙ c.in-Some.is) h

pub returns-in-Ok-clause-numbers : goal.returns-in-Ok-clause-numbers
returns-in-Ok-clause-numbers c = λ table form bytes h.
    let none : c.self.inside.fault ≡ None = search rules in
    let g = going_at table form bytes _ none (subst (Fed table form bytes) (sym c.self.view_is) h) in
    subst (λ (l : List Label). TakesLog l form bytes c.finish_parts.new.numbers.items) g.labels
    (c.in-Ok.ensures.ok form bytes (subst (λ (l : List Label). TakesAll l form true bytes c.self.inside.reader c.self.inside.numbers.items) (sym g.labels) g.takes))

pub returns-clause-fault : goal.returns-clause-fault
returns-clause-fault c = λ table form bytes h.
    let none : c.self.inside.fault ≡ None = search rules in
    let g = going_at table form bytes _ none (subst (Fed table form bytes) (sym c.self.view_is) h) in
    c.in-Err.ensures.err form bytes (subst (λ (l : List Label). TakesAll l form true bytes c.self.inside.reader c.self.inside.numbers.items) (sym g.labels) g.takes)
