use Rattle.std.proofs.Common.{◌≡◌, ◌∙◌, None, rules, sym, ap, subst}
use Rattle.session_judge.specs.States.{SessionsValue, Fed}
use Rattle.session_judge.proofs.Judging.{going_at, made_on, whole_fault}
use Rattle.session_judge.proofs.sessions.Sessions.end.Goals as goal

pub returns-in-Some-clause-fault : goal.returns-in-Some-clause-fault
returns-in-Some-clause-fault g c = λ v x form budget bytes h.
    whole_fault g.S.Store.holds v x form budget bytes c.args.self c.in-Some.fault (ap (λ (j : SessionsValue _). j.fault) (sym c.self.view_is) ∙ c.in-Some.is) h

pub returns-clause-fault : goal.returns-clause-fault
returns-clause-fault g c = λ v x form budget bytes h.
    let none : c.self.inside.fault ≡ None = search rules in
    let was = going_at g.S.Store.holds v x form budget bytes _ none (subst (Fed g.S.Store.holds v x form budget bytes) (sym c.self.view_is) h) in
    c.in-Err.ensures.err form bytes was.takes

pub returns-in-Ok-clause-made : goal.returns-in-Ok-clause-made
returns-in-Ok-clause-made g c = λ v x form budget bytes h.
    let none : c.self.inside.fault ≡ None = search rules in
    let was = going_at g.S.Store.holds v x form budget bytes _ none (subst (Fed g.S.Store.holds v x form budget bytes) (sym c.self.view_is) h) in
    made_on v x budget c.self.inside.tracks c.finish_parts.new.tracks c.finish_parts.ensures.made was.made

pub returns-in-Ok-clause-taken : goal.returns-in-Ok-clause-taken
returns-in-Ok-clause-taken g c = λ v x form budget bytes h.
    let none : c.self.inside.fault ≡ None = search rules in
    let was = going_at g.S.Store.holds v x form budget bytes _ none (subst (Fed g.S.Store.holds v x form budget bytes) (sym c.self.view_is) h) in
    c.in-Ok.ensures.ok form bytes was.takes
