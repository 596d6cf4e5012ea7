use Rattle.std.proofs.Common.{◌≡◌, ℕ, List, Some, slice_get, ap, refl, rules, subst, sym}
use Rattle.msc_base.specs.Lists.{IsAmong}
use Rattle.log_judge.proofs.Takings.{ok_of}
use Rattle.term_tables.specs.NetValues.{NetsValue, label_number}
use Rattle.session_judge.specs.Steps.{TakesAt}
use Rattle.session_judge.specs.Tracks.{SessionValue, TracksValue, EachServes, HaveAtMost, HaveTaken, keys_in}
use Rattle.session_judge.proofs.Took.{few_at, few_begun, took_at, took_new}
use Rattle.session_judge.proofs.tracks.SessionTracks.take.Goals as goal

pub take_at-requires-clause-room : goal.take_at-requires-clause-room
take_at-requires-clause-room g c =
    (c.requires.room.0, c.requires.room.1, λ s among. c.requires.room.2 s (subst (λ (t : TracksValue _). IsAmong t.sessions s) c.self.view_is among))

pub invariant_of-self : goal.invariant_of-self
invariant_of-self g c =
    let nets : c.deref.result.now ≡ c.self.inside.nets.value = search rules in
    record {
      sound = c.self.invariant.sound;
      least = c.self.invariant.least;
      most = c.self.invariant.most;
      serving = subst (λ (v : NetsValue). EachServes g.S.Store.serves v c.take_at.new.sessions.items) nets c.take_at.ensures.serves;
    }

pub returns-in-Some-clause-few : goal.returns-in-Some-clause-few
returns-in-Some-clause-few g c = λ n few.
    ok_of c.take_at.result
    (λ taken. few_at g.S.Store.holds n c.deref.result.now c.in-Some.place c.args.event.number c.args.event.event.line c.self.inside.sessions.items c.take_at.new.sessions.items taken (subst (λ (t : TracksValue _). HaveAtMost n t.sessions) (sym c.self.view_is) few))
    c.take_at.ensures.taken

pub returns-in-Some-clause-taken : goal.returns-in-Some-clause-taken
returns-in-Some-clause-taken g c = λ events h.
    let i = c.self.inside in
    let e = c.args.event.event in
    let nets : c.deref.result.now ≡ i.nets.value = search rules in
    let key : c.bytes.result.now ≡ e.key = search rules in
    let at = subst (λ (k : List ℕ). slice_get (keys_in c.args.self.now.sessions) c.in-Some.place ≡ Some k) key c.in-Some.ensures in
    let was = subst (λ (t : TracksValue _). slice_get (keys_in t.sessions) c.in-Some.place ≡ Some e.key) (sym c.self.view_is) at in
    let numbered = subst (λ (t : TracksValue _). c.args.event.number ≡ label_number t.nets.labels e.label) (sym c.self.view_is) c.requires.number in
    ok_of c.take_at.result
    (λ taken.
    took_at g.S.Store.holds events e (record { nets = i.nets.value; term = i.term; budget = i.budget; sessions = i.sessions.items }) (record { nets = i.nets.value; term = i.term; budget = i.budget; sessions = c.take_at.new.sessions.items })
    c.in-Some.place c.args.event.number (record { nets = refl; term = refl; budget = refl }) was
    (subst (λ (v : NetsValue). TakesAt g.S.Store.holds v c.in-Some.place c.args.event.number e.line i.sessions.items c.take_at.new.sessions.items) nets taken) numbered (subst (HaveTaken g.S.Store.holds events) (sym c.self.view_is) h))
    c.take_at.ensures.taken

pub returns-in-None-clause-few : goal.returns-in-None-clause-few
returns-in-None-clause-few g c = λ n few.
    let t = c.args.self.now in
    ok_of c.begin.result (λ begun. few_begun g.S.Store.holds n t.nets t.term t.budget c.args.event.event.key c.args.event.number c.args.event.event.line t.sessions c.begin.new.self.sessions begun few) c.begin.ensures.begun

pub returns-in-None-clause-taken : goal.returns-in-None-clause-taken
returns-in-None-clause-taken g c = λ events h.
    let key : c.bytes.result.now ≡ c.args.event.event.key = search rules in
    ok_of c.begin.result
    (λ begun.
    took_new g.S.Store.holds events c.args.event.event c.args.self.now c.begin.new.self c.args.event.number c.begin.ensures.made
    (λ there. c.in-None.ensures (subst (λ (k : List ℕ). IsAmong (keys_in c.args.self.now.sessions) k) (sym key) there)) begun c.requires.number h)
    c.begin.ensures.begun
