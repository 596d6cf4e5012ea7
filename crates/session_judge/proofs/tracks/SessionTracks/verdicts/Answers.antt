use Rattle.std.proofs.Common.{◌≡◌, ◌∙◌, ◌+◌, ℕ, List, ap, arith, rules, subst, sym, take, take_all}
use Rattle.msc_base.specs.Lists.{IsAmong}
use Rattle.list_facts.proofs.Members.{at_among}
use Rattle.term_tables.specs.NetValues.{NetsValue}
use Rattle.trace_judge.specs.Tracks.{IfHeld}
use Rattle.session_judge.specs.Steps.{AreAnswers, IsAnswerOf}
use Rattle.session_judge.specs.Tracks.{SessionValue, TracksValue}
use Rattle.session_judge.specs.declared.verdict.SessionVerdict.{SessionVerdict}
use Rattle.session_judge.proofs.Answers.{answered_next, answers_are}
use Rattle.session_judge.proofs.SessionLists.{at_read}
use Rattle.session_judge.proofs.tracks.SessionTracks.verdicts.Goals as goal

pub verdict-requires : goal.verdict-requires
verdict-requires g c =
    let items = c.deref-session-items.result.now in
    let s = c.session-item.result in
    let held : items ≡ c.self.inside.sessions.items = search rules in
    let nets : c.deref.result.now ≡ c.self.inside.nets.value = search rules in
    let at = at_read items c.loop-session.session-index s c.loop-session-test.true c.session-item.is in
    subst (λ (v : NetsValue). IfHeld (λ set. g.S.Store.serves set v) s.track) (sym nets)
    (c.self.invariant.serving s (subst (λ (ss : List (SessionValue _)). IsAmong ss s) held (at_among items c.loop-session.session-index s at)))

pub loop-session-preserved : goal.loop-session-preserved
loop-session-preserved g c =
    let items = c.deref-session-items.result.now in
    let s = c.session-item.result in
    let a = c.in_ok-verdict.field-0 in
    let v = c.args.self.now.nets in
    let nets : c.deref.result.now ≡ c.self.inside.nets.value = search rules in
    let same : c.deref.result.now ≡ v = nets ∙ ap (λ (t : TracksValue _). t.nets) c.self.view_is in
    let one = subst (λ (w : NetsValue). IsAnswerOf g.S.Store.holds w s a) same c.in_ok-verdict.ensures in
    let at = at_read items c.loop-session.session-index s c.loop-session-test.true c.session-item.is in
    subst (λ (answers : List SessionVerdict). AreAnswers g.S.Store.holds v (take (c.loop-session.session-index + 1) items) answers) (sym c.in_ok-push.ensures.ok)
    (answered_next g.S.Store.holds v items c.loop-session.session-index s c.loop-session.verdicts a at one c.loop-session.invariant)

pub returns : goal.returns
returns g c = λ events h.
    let items = c.deref-session-items.result.now in
    let held : items ≡ c.self.inside.sessions.items = search rules in
    let all : take c.loop-session.session-index items ≡ c.args.self.now.sessions = take_all c.loop-session.session-index items (omega (arith, c.loop-session-test.false)) ∙ held ∙ ap (λ (t : TracksValue _). t.sessions) c.self.view_is in
    answers_are g.S.Store.holds c.args.self.now events c.loop-session.verdicts (subst (λ (ss : List (SessionValue _)). AreAnswers g.S.Store.holds c.args.self.now.nets ss c.loop-session.verdicts) all c.loop-session.invariant) h
