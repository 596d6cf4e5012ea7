use Rattle.std.proofs.Common.{◌≡◌, ◌++◌, ◌∙◌, None, rules, sym, ap, subst}
use Rattle.session_log.specs.Sessions.{session_rules}
use Rattle.log_judge.proofs.Faults.{behind_on, behind_decided, behind_lasts}
use Rattle.log_judge.proofs.Takings.{takes_decided}
use Rattle.session_judge.specs.States.{SessionsValue, Fed}
use Rattle.session_judge.specs.Tracks.{HaveTaken}
use Rattle.session_judge.proofs.Judging.{fault_at, fed_on, going_at, going_fed, made_on}
use Rattle.session_judge.proofs.sessions.Sessions.feed.Goals as goal

pub returns-in-Some-clause-fed : goal.returns-in-Some-clause-fed
returns-in-Some-clause-fed g c = λ v x form budget bytes h.
    fed_on g.S.Store.holds v x form budget bytes c.args.piece.now c.args.self.now c.in-Some.fault (ap (λ (j : SessionsValue _). j.fault) (sym c.self.view_is) ∙ c.in-Some.is) h

pub returns-in-Some-clause-decided : goal.returns-in-Some-clause-decided
returns-in-Some-clause-decided g c = λ v x form budget bytes h.
    let s = c.args.self.now.reader in
    let b = fault_at g.S.Store.holds v x form budget bytes c.args.self.now c.in-Some.fault (ap (λ (j : SessionsValue _). j.fault) (sym c.self.view_is) ∙ c.in-Some.is) h in
    behind_decided session_rules c.in-Some.fault form (bytes ++ c.args.piece.now) s (behind_on session_rules c.in-Some.fault form bytes c.args.piece.now s b.behind)

pub returns-in-Some-clause-lasts : goal.returns-in-Some-clause-lasts
returns-in-Some-clause-lasts g c = λ v x form budget bytes h more.
    let s = c.args.self.now.reader in
    let b = fault_at g.S.Store.holds v x form budget bytes c.args.self.now c.in-Some.fault (ap (λ (j : SessionsValue _). j.fault) (sym c.self.view_is) ∙ c.in-Some.is) h in
    behind_lasts session_rules c.in-Some.fault form (bytes ++ c.args.piece.now) more s (behind_on session_rules c.in-Some.fault form bytes c.args.piece.now s b.behind)

pub returns-in-Ok-clause-fed : goal.returns-in-Ok-clause-fed
returns-in-Ok-clause-fed g c = λ v x form budget bytes h.
    let none : c.self.inside.fault ≡ None = search rules in
    let was = going_at g.S.Store.holds v x form budget bytes _ none (subst (Fed g.S.Store.holds v x form budget bytes) (sym c.self.view_is) h) in
    going_fed g.S.Store.holds v x form budget (bytes ++ c.args.piece.now) (record { reader = c.feed_parts.new.reader; tracks = c.feed_parts.new.tracks; fault = c.self.inside.fault }) none
    (record { made = made_on v x budget c.self.inside.tracks c.feed_parts.new.tracks c.feed_parts.ensures.made was.made; goes_on = c.feed_parts.ensures.goes_on; takes = c.in-Ok.ensures.ok form bytes was.takes })

pub returns-in-Ok-clause-decided : goal.returns-in-Ok-clause-decided
returns-in-Ok-clause-decided g c = λ v x form budget bytes h.
    let none : c.self.inside.fault ≡ None = search rules in
    let was = going_at g.S.Store.holds v x form budget bytes _ none (subst (Fed g.S.Store.holds v x form budget bytes) (sym c.self.view_is) h) in
    takes_decided session_rules (HaveTaken g.S.Store.holds) form (bytes ++ c.args.piece.now) c.feed_parts.new.reader c.feed_parts.new.tracks c.feed_parts.ensures.goes_on (c.in-Ok.ensures.ok form bytes was.takes)

pub returns-in-Err-clause-fed : goal.returns-in-Err-clause-fed
returns-in-Err-clause-fed g c = λ v x form budget bytes h.
    let none : c.self.inside.fault ≡ None = search rules in
    let was = going_at g.S.Store.holds v x form budget bytes _ none (subst (Fed g.S.Store.holds v x form budget bytes) (sym c.self.view_is) h) in
    record { made = made_on v x budget c.self.inside.tracks c.feed_parts.new.tracks c.feed_parts.ensures.made was.made; behind = c.in-Err.ensures.err form bytes was.takes }

pub returns-in-Err-clause-decided : goal.returns-in-Err-clause-decided
returns-in-Err-clause-decided g c = λ v x form budget bytes h.
    let none : c.self.inside.fault ≡ None = search rules in
    let was = going_at g.S.Store.holds v x form budget bytes _ none (subst (Fed g.S.Store.holds v x form budget bytes) (sym c.self.view_is) h) in
    behind_decided session_rules c.in-Err.fault form (bytes ++ c.args.piece.now) c.feed_parts.new.reader (c.in-Err.ensures.err form bytes was.takes)

pub returns-in-Err-clause-lasts : goal.returns-in-Err-clause-lasts
returns-in-Err-clause-lasts g c = λ v x form budget bytes h more.
    let none : c.self.inside.fault ≡ None = search rules in
    let was = going_at g.S.Store.holds v x form budget bytes _ none (subst (Fed g.S.Store.holds v x form budget bytes) (sym c.self.view_is) h) in
    behind_lasts session_rules c.in-Err.fault form (bytes ++ c.args.piece.now) more c.feed_parts.new.reader (c.in-Err.ensures.err form bytes was.takes)
