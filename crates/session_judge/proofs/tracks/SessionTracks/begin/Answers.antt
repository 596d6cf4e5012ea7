use Rattle.std.proofs.Common.{◌≡◌, ◌++◌, ◌∷◌, ℕ, List, [], inl, inr, rules, subst, sym}
use Rattle.msc_base.specs.Lists.{IsAmong}
use Rattle.list_facts.proofs.Members.{among_snoc}
use Rattle.chart_term.specs.Terms.{Tree}
use Rattle.term_tables.specs.NetValues.{NetsValue}
use Rattle.trace_judge.specs.Tracks.{Fed, IfHeld}
use Rattle.session_judge.specs.Steps.{Begins, Takes}
use Rattle.session_judge.specs.Tracks.{SessionValue, TracksValue}
use Rattle.session_judge.proofs.Took.{begins_by}
use Rattle.session_judge.proofs.tracks.SessionTracks.begin.Goals as goal

pub returns-clause-begun : goal.returns-clause-begun
returns-clause-begun g c =
    let v = c.self.inside.nets.value in
    let s = c.in_ok-session.session in
    let old = c.self.inside.sessions.items in
    let first : c.deref.result.now ≡ v = search rules in
    let second : c.deref-2.result.now ≡ v = search rules in
    let fed = subst (λ (x : Tree). Fed g.S.Store.holds v x c.self.inside.budget [] s.track) c.in_ok-term.ensures (subst (λ (w : NetsValue). Fed g.S.Store.holds w c.in_ok-term.term c.self.inside.budget [] s.track) first c.in_ok-session.ensures.fed) in
    let taken = subst (λ (w : NetsValue). Takes g.S.Store.holds w c.args.number c.args.line s c.take.new.self) second c.in_ok-take.ensures.taken in
    let added : c.push.new.self.items ≡ old ++ c.take.new.self ∷ [] = search rules in
    subst (λ (t : TracksValue _). Begins g.S.Store.holds t.nets t.term t.budget c.args.key c.args.number c.args.line t.sessions c.push.new.self.items) c.self.view_is
    (begins_by g.S.Store.holds v c.self.inside.term c.self.inside.budget c.args.key c.args.number c.args.line old c.push.new.self.items s c.take.new.self fed c.in_ok-session.ensures.key taken added)

pub invariant_of-self-2 : goal.invariant_of-self-2
invariant_of-self-2 g c =
    let old = c.self.inside.sessions.items in
    let second : c.deref-2.result.now ≡ c.self.inside.nets.value = search rules in
    let serves = subst (λ (w : NetsValue). IfHeld (λ set. g.S.Store.serves set w) c.take.new.self.track) second c.in_ok-take.ensures.serves in
    let added : c.push.new.self.items ≡ old ++ c.take.new.self ∷ [] = search rules in
    record {
      sound = c.self.invariant.sound;
      least = c.self.invariant.least;
      most = c.self.invariant.most;
      serving = λ s among.
          elim (among_snoc old c.take.new.self s (subst (λ (ss : List (SessionValue _)). IsAmong ss s) added among)) [
            | inl there ↦ c.self.invariant.serving s there
            | inr is ↦ subst (λ (t : SessionValue _). IfHeld (λ set. g.S.Store.serves set c.self.inside.nets.value) t.track) (sym is) serves
          ];
    }
