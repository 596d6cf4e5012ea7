use Rattle.std.proofs.Common.{◌≡◌, ◌∙◌, None, true, rules, sym, ap, subst}
use Rattle.term_tables.specs.NetValues.{NetsValue}
use Rattle.log_judge.specs.States.{JudgeValue, Fed}
use Rattle.log_judge.specs.Taking.{TakesAll, TakesLog}
use Rattle.log_judge.proofs.LogJudging.{going_at, takes_at, whole_fault}
use Rattle.log_judge.proofs.judge.Judge.end.Goals as goal

pub returns-in-Some-clause-fault : goal.returns-in-Some-clause-fault
returns-in-Some-clause-fault g c = λ v x form budget bytes h.
    whole_fault g.S.Store.holds v x form budget bytes c.args.self c.in-Some.fault (ap (λ (j : JudgeValue _). j.fault) (sym c.self.view_is) ∙ c.in-Some.is) h

pub returns-clause-fault : goal.returns-clause-fault
returns-clause-fault g c = λ v x form budget bytes h.
    let none : c.self.inside.fault ≡ None = search rules in
    let shared : c.deref.result.now ≡ c.self.inside.nets.value = search rules in
    let t = takes_at g.S.Store.holds v x form budget bytes _ none (subst (Fed g.S.Store.holds v x form budget bytes) (sym c.self.view_is) h) in
    c.in-Err.ensures.err x form budget bytes (subst (λ (w : NetsValue). TakesAll g.S.Store.holds w x form budget true bytes c.self.inside.reader c.self.inside.track) (sym shared) t)

pub returns-in-Ok-clause-taken : goal.returns-in-Ok-clause-taken
returns-in-Ok-clause-taken g c = λ v x form budget bytes h.
    let none : c.self.inside.fault ≡ None = search rules in
    let shared : c.deref.result.now ≡ c.self.inside.nets.value = search rules in
    let f = subst (Fed g.S.Store.holds v x form budget bytes) (sym c.self.view_is) h in
    let t = takes_at g.S.Store.holds v x form budget bytes _ none f in
    let taken = c.in-Ok.ensures.ok x form budget bytes (subst (λ (w : NetsValue). TakesAll g.S.Store.holds w x form budget true bytes c.self.inside.reader c.self.inside.track) (sym shared) t) in
    let same = (going_at g.S.Store.holds v x form budget bytes _ none f).nets_are in
    record { nets_are = same; takes = subst (λ (w : NetsValue). TakesLog g.S.Store.holds w x form budget bytes c.finish_parts.new.track) (shared ∙ same) taken }
