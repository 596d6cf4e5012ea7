-- The tracks of a log's sessions take one event more: an event of a key goes to the track of that key, and to no other.
use Rattle.std.proofs.Common.{◌≡◌, ◌⊎◌, ◌++◌, ◌∷◌, ℕ, List, [], Option, Some, slice_get, slice_set, refl, sym, ap, ◌∙◌, subst, inl, inr, arith, ◌+◌, Result, Ok, Err, OnOk}
use Rattle.msc_base.specs.Lists.{AreDifferent, IsAmong}
use Rattle.list_facts.proofs.Members.{among_snoc, at_among}
use Rattle.line_events.specs.declared.event.LineEvent.{LineEvent}
use Rattle.session_log.specs.declared.keyed.KeyedEvent.{KeyedEvent}
use Rattle.term_tables.specs.NetValues.{NetsValue, label_number}
use Rattle.chart_term.specs.Terms.{Tree}
use Rattle.trace_judge.specs.Sets.{SetValue}
use Rattle.trace_judge.specs.Tracks.{TrackValue, Fed}
use Rattle.session_judge.specs.SessionEvents.{events_of, keys_of, line_event}
use Rattle.trace_judge.specs.Steps.{ForLabels}
use Rattle.session_judge.specs.Steps.{Begins, Takes, TakesAt}
use Rattle.session_judge.specs.Tracks.{SessionValue, TracksValue, keys_in, HaveAtMost, StaysMade, HaveTaken}
use Rattle.session_judge.proofs.SessionEvents.{keys_differ, keys_known, keys_new, events_same, events_other, events_none}
use Rattle.session_judge.proofs.SessionLists.{at_mapped, beside, few_added, few_written, key_among, keys_added, keys_written}

module _ {S : Type 0} where
  -- the key of the session at a place
  key_at : (ss : List (SessionValue S)) (place : ℕ) (s : SessionValue S) (key : List ℕ) → slice_get ss place ≡ Some s → slice_get (keys_in ss) place ≡ Some key → s.key ≡ key
  key_at ss place s key at there =
      let found = at_mapped (λ (r : SessionValue S). r.key) ss place key there in
      let same : Some found.0 ≡ Some s = sym found.1 ∙ at in
      let e : found.0 ≡ s = cc in
      ap (λ (r : SessionValue S). r.key) (sym e) ∙ found.2

module _ {S : Type 0} (holds : S → SetValue) where
  -- a session took its event, where its track did
  pub session_takes : {T E : Type 0} (v : NetsValue) (number : Option ℕ) (line : ℕ) (s t : SessionValue S) (r : Result T E) → t.key ≡ s.key → OnOk r (t.track.events ≡ s.track.events + 1)
      → ((x : Tree) (budget : ℕ) (events : List LineEvent) → Fed holds v x budget events s.track → OnOk r (ForLabels v number (λ label. Fed holds v x budget (events ++ record { label = label; line = line } ∷ []) t.track)))
      → OnOk r (Takes holds v number line s t)
  session_takes v number line s t (Ok u) key count fed = record { key = key; count = count; fed = fed }
  session_takes v number line s t (Err e) key count fed = tt

  -- a session has begun with its first event
  pub begins_by : (v : NetsValue) (x : Tree) (budget : ℕ) (key : List ℕ) (number : Option ℕ) (line : ℕ) (old new : List (SessionValue S)) (s t : SessionValue S) → Fed holds v x budget [] s.track → s.key ≡ key → Takes holds v number line s t
      → new ≡ old ++ t ∷ [] → Begins holds v x budget key number line old new
  begins_by v x budget key number line old new s t fed named taken is = record {
    next = t;
    is = is;
    key_is = taken.key ∙ named;
    count = (let q : s.track.events ≡ 0 = fed.count in omega (arith, q, taken.count));
    fed = taken.fed x budget [] fed;
  }

  -- no track has taken more than one event more
  pub few_at : (n : ℕ) (v : NetsValue) (place : ℕ) (number : Option ℕ) (line : ℕ) (old new : List (SessionValue S)) → TakesAt holds v place number line old new → HaveAtMost n old → HaveAtMost (n + 1) new
  few_at n v place number line old new taken few = subst (λ (ss : List (SessionValue S)). HaveAtMost (n + 1) ss) (sym taken.is) (few_written n old place taken.session taken.next taken.was taken.takes.count few)

  pub few_begun : (n : ℕ) (v : NetsValue) (x : Tree) (budget : ℕ) (key : List ℕ) (number : Option ℕ) (line : ℕ) (old new : List (SessionValue S)) → Begins holds v x budget key number line old new → HaveAtMost n old → HaveAtMost (n + 1) new
  few_begun n v x budget key number line old new begun few = subst (λ (ss : List (SessionValue S)). HaveAtMost (n + 1) ss) (sym begun.is) (few_added n old begun.next begun.count few)

  -- what a track was fed, where the sessions are made as before
  moved : (t u : TracksValue S) (es : List LineEvent) (w : TrackValue S) → StaysMade t u → Fed holds t.nets t.term t.budget es w → Fed holds u.nets u.term u.budget es w
  moved t u es w made h =
      subst (λ (v : NetsValue). Fed holds v u.term u.budget es w) (sym made.nets)
      (subst (λ (x : Tree). Fed holds t.nets x u.budget es w) (sym made.term) (subst (λ (b : ℕ). Fed holds t.nets t.term b es w) (sym made.budget) h))

  -- a track was fed these events, which are those of its key
  fed_of : (t u : TracksValue S) (key : List ℕ) (all : List KeyedEvent) (es : List LineEvent) (w : TrackValue S) → StaysMade t u → events_of key all ≡ es → Fed holds t.nets t.term t.budget es w → Fed holds u.nets u.term u.budget (events_of key all) w
  fed_of t u key all es w made is h = subst (λ (ds : List LineEvent). Fed holds u.nets u.term u.budget ds w) (sym is) (moved t u es w made h)

  -- a session that has begun
  pub took_at : (es : List KeyedEvent) (e : KeyedEvent) (t u : TracksValue S) (place : ℕ) (number : Option ℕ) → StaysMade t u → slice_get (keys_in t.sessions) place ≡ Some e.key → TakesAt holds t.nets place number e.line t.sessions u.sessions
      → number ≡ label_number t.nets.labels e.label → HaveTaken holds es t → HaveTaken holds (es ++ e ∷ []) u
  took_at es e t u place number made at taken numbered h =
      let same : taken.session.key ≡ e.key = key_at t.sessions place taken.session e.key taken.was at in
      let known : IsAmong (keys_of es) e.key = subst (λ (ks : List (List ℕ)). IsAmong ks e.key) h.keys (at_among (keys_in t.sessions) place e.key at) in
      let different : AreDifferent (keys_in t.sessions) = subst (λ (ks : List (List ℕ)). AreDifferent ks) (sym h.keys) (keys_differ es) in
      let before = h.each taken.session (at_among t.sessions place taken.session taken.was) in
      record {
        keys = ap (λ (ss : List (SessionValue S)). keys_in ss) taken.is ∙ keys_written t.sessions place taken.session taken.next taken.was taken.takes.key ∙ h.keys ∙ sym (keys_known es e known);
        each = λ z among.
            elim (beside t.sessions place taken.session taken.next z different taken.was (subst (λ (ss : List (SessionValue S)). IsAmong ss z) taken.is among)) [
              | inl is ↦ subst (λ (r : SessionValue S). Fed holds u.nets u.term u.budget (events_of r.key (es ++ e ∷ [])) r.track) (sym is)
                  (fed_of t u taken.next.key (es ++ e ∷ []) (events_of taken.session.key es ++ line_event e ∷ []) taken.next.track made
                  (ap (λ (k : List ℕ). events_of k (es ++ e ∷ [])) taken.takes.key ∙ events_same es e taken.session.key (sym same))
                  (taken.takes.fed t.term t.budget (events_of taken.session.key es) before e.label numbered))
              | inr other ↦ fed_of t u z.key (es ++ e ∷ []) (events_of z.key es) z.track made (events_other es e z.key (λ q. other.1 (same ∙ q))) (h.each z other.0)
            ];
      }

  -- another begins
  pub took_new : (es : List KeyedEvent) (e : KeyedEvent) (t u : TracksValue S) (number : Option ℕ) → StaysMade t u → (IsAmong (keys_in t.sessions) e.key → ⊥) → Begins holds t.nets t.term t.budget e.key number e.line t.sessions u.sessions
      → number ≡ label_number t.nets.labels e.label → HaveTaken holds es t → HaveTaken holds (es ++ e ∷ []) u
  took_new es e t u number made lacks begun numbered h =
      let new : IsAmong (keys_of es) e.key → ⊥ = λ there. lacks (subst (λ (ks : List (List ℕ)). IsAmong ks e.key) (sym h.keys) there) in
      let none : events_of e.key es ≡ [] = events_none es e.key new in
      record {
        keys = ap (λ (ss : List (SessionValue S)). keys_in ss) begun.is ∙ keys_added t.sessions begun.next ∙ ap (λ (ks : List (List ℕ)). ks ++ begun.next.key ∷ []) h.keys ∙ ap (λ (k : List ℕ). keys_of es ++ k ∷ []) begun.key_is ∙ sym (keys_new es e new);
        each = λ z among.
            elim (among_snoc t.sessions begun.next z (subst (λ (ss : List (SessionValue S)). IsAmong ss z) begun.is among)) [
              | inl there ↦ fed_of t u z.key (es ++ e ∷ []) (events_of z.key es) z.track made (events_other es e z.key (λ q. lacks (subst (λ (k : List ℕ). IsAmong (keys_in t.sessions) k) (sym q) (key_among t.sessions z there)))) (h.each z there)
              | inr is ↦ subst (λ (r : SessionValue S). Fed holds u.nets u.term u.budget (events_of r.key (es ++ e ∷ [])) r.track) (sym is)
                  (fed_of t u begun.next.key (es ++ e ∷ []) (line_event e ∷ []) begun.next.track made
                  (ap (λ (k : List ℕ). events_of k (es ++ e ∷ [])) begun.key_is ∙ events_same es e e.key refl ∙ ap (λ (ds : List LineEvent). ds ++ line_event e ∷ []) none)
                  (begun.fed e.label numbered))
            ];
      }

  -- no session has begun before the first event
  pub took_none : (t : TracksValue S) → t.sessions ≡ [] → HaveTaken holds [] t
  took_none t none = record {
    keys = ap (λ (ss : List (SessionValue S)). keys_in ss) none;
    each = λ z among. absurd (subst (λ (ss : List (SessionValue S)). IsAmong ss z) none among);
  }
