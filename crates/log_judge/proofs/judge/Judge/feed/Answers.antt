use Rattle.std.proofs.Common.{◌≡◌, ◌++◌, ◌∙◌, None, true, rules, sym, ap, subst}
use Rattle.event_log.specs.Logs.{log_rules}
use Rattle.term_tables.specs.NetValues.{NetsValue}
use Rattle.trace_judge.specs.Tracks as track
use Rattle.log_judge.specs.States.{JudgeValue, Fed}
use Rattle.log_judge.specs.Taking.{IsFollowing, TakesAll}
use Rattle.log_judge.proofs.Faults.{behind_on, behind_decided, behind_lasts}
use Rattle.log_judge.proofs.LogJudging.{fault_at, fed_on, follows_at, going_at, takes_at}
use Rattle.log_judge.proofs.Takings.{takes_decided}
use Rattle.log_judge.proofs.judge.Judge.feed.Goals as goal

pub returns-in-Some-clause-fed : goal.returns-in-Some-clause-fed
returns-in-Some-clause-fed g c = λ v x form budget bytes h.
    fed_on g.S.Store.holds v x form budget bytes c.args.piece.now c.args.self.now c.in-Some.fault (ap (λ (j : JudgeValue _). j.fault) (sym c.self.view_is) ∙ c.in-Some.is) h

pub returns-in-Some-clause-decided : goal.returns-in-Some-clause-decided
returns-in-Some-clause-decided g c = λ v x form budget bytes h.
    let s = c.args.self.now.reader in
    let b = fault_at g.S.Store.holds v x form budget bytes c.args.self.now c.in-Some.fault (ap (λ (j : JudgeValue _). j.fault) (sym c.self.view_is) ∙ c.in-Some.is) h in
    behind_decided log_rules c.in-Some.fault form (bytes ++ c.args.piece.now) s (behind_on log_rules c.in-Some.fault form bytes c.args.piece.now s b.behind)

pub returns-in-Some-clause-lasts : goal.returns-in-Some-clause-lasts
returns-in-Some-clause-lasts g c = λ v x form budget bytes h more.
    let s = c.args.self.now.reader in
    let b = fault_at g.S.Store.holds v x form budget bytes c.args.self.now c.in-Some.fault (ap (λ (j : JudgeValue _). j.fault) (sym c.self.view_is) ∙ c.in-Some.is) h in
    behind_lasts log_rules c.in-Some.fault form (bytes ++ c.args.piece.now) more s (behind_on log_rules c.in-Some.fault form bytes c.args.piece.now s b.behind)

pub returns-in-Ok-clause-decided : goal.returns-in-Ok-clause-decided
returns-in-Ok-clause-decided g c = λ v x form budget bytes h.
    let none : c.self.inside.fault ≡ None = search rules in
    let shared : c.deref.result.now ≡ c.self.inside.nets.value = search rules in
    let t = takes_at g.S.Store.holds v x form budget bytes _ none (subst (Fed g.S.Store.holds v x form budget bytes) (sym c.self.view_is) h) in
    takes_decided log_rules (track.Fed g.S.Store.holds c.deref.result.now x budget) form (bytes ++ c.args.piece.now) c.feed_parts.new.reader c.feed_parts.new.track c.in-Ok.ensures.goes_on
    (c.in-Ok.ensures.ok x form budget bytes (subst (λ (w : NetsValue). TakesAll g.S.Store.holds w x form budget true bytes c.self.inside.reader c.self.inside.track) (sym shared) t))

pub returns-in-Err-clause-fed : goal.returns-in-Err-clause-fed
returns-in-Err-clause-fed g c = λ v x form budget bytes h.
    let none : c.self.inside.fault ≡ None = search rules in
    let shared : c.deref.result.now ≡ c.self.inside.nets.value = search rules in
    let was = subst (Fed g.S.Store.holds v x form budget bytes) (sym c.self.view_is) h in
    let t = takes_at g.S.Store.holds v x form budget bytes _ none was in
    let followed = subst (λ (w : NetsValue). IsFollowing g.S.Store.holds w x budget c.self.inside.track) (sym shared) (follows_at g.S.Store.holds v x form budget bytes _ none was) in
    let nets_are : c.self.inside.nets.value ≡ v = (going_at g.S.Store.holds v x form budget bytes _ none was).nets_are in
    record {
      nets_are = nets_are;
      follows = subst (λ (w : NetsValue). IsFollowing g.S.Store.holds w x budget c.feed_parts.new.track) (shared ∙ nets_are) (c.feed_parts.ensures.follows x budget followed);
      behind = c.in-Err.ensures.err x form budget bytes (subst (λ (w : NetsValue). TakesAll g.S.Store.holds w x form budget true bytes c.self.inside.reader c.self.inside.track) (sym shared) t);
    }

pub returns-in-Err-clause-decided : goal.returns-in-Err-clause-decided
returns-in-Err-clause-decided g c = λ v x form budget bytes h.
    let none : c.self.inside.fault ≡ None = search rules in
    let shared : c.deref.result.now ≡ c.self.inside.nets.value = search rules in
    let t = takes_at g.S.Store.holds v x form budget bytes _ none (subst (Fed g.S.Store.holds v x form budget bytes) (sym c.self.view_is) h) in
    behind_decided log_rules c.in-Err.fault form (bytes ++ c.args.piece.now) c.feed_parts.new.reader
    (c.in-Err.ensures.err x form budget bytes (subst (λ (w : NetsValue). TakesAll g.S.Store.holds w x form budget true bytes c.self.inside.reader c.self.inside.track) (sym shared) t))

pub returns-in-Err-clause-lasts : goal.returns-in-Err-clause-lasts
returns-in-Err-clause-lasts g c = λ v x form budget bytes h more.
    let none : c.self.inside.fault ≡ None = search rules in
    let shared : c.deref.result.now ≡ c.self.inside.nets.value = search rules in
    let t = takes_at g.S.Store.holds v x form budget bytes _ none (subst (Fed g.S.Store.holds v x form budget bytes) (sym c.self.view_is) h) in
    behind_lasts log_rules c.in-Err.fault form (bytes ++ c.args.piece.now) more c.feed_parts.new.reader
    (c.in-Err.ensures.err x form budget bytes (subst (λ (w : NetsValue). TakesAll g.S.Store.holds w x form budget true bytes c.self.inside.reader c.self.inside.track) (sym shared) t))
