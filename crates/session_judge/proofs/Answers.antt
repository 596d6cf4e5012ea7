-- The verdicts on the sessions of a log.
use Rattle.std.proofs.Common.{◌≡◌, ◌⊎◌, ◌++◌, ◌∷◌, ℕ, zero, suc, ◌+◌, List, [], map, Some, slice_get, take, refl, sym, ap, ◌∙◌, subst, inl, inr, add-one}
use Rattle.msc_base.specs.Lists.{IsAmong}
use Rattle.line_events.specs.declared.event.LineEvent.{LineEvent}
use Rattle.session_log.specs.declared.keyed.KeyedEvent.{KeyedEvent}
use Rattle.term_tables.specs.NetValues.{NetsValue}
use Rattle.trace_judge.specs.Sets.{SetValue}
use Rattle.trace_judge.specs.Verdicts.{IsTermVerdict, TellsRuns}
use Rattle.session_judge.specs.SessionEvents.{events_of, keys_of}
use Rattle.session_judge.specs.SessionVerdicts.{AreVerdicts, IsVerdictOf}
use Rattle.session_judge.specs.Steps.{AreAnswers, IsAnswerOf}
use Rattle.session_judge.specs.Tracks.{SessionValue, TracksValue, keys_in, HaveTaken}
use Rattle.session_judge.specs.declared.verdict.SessionVerdict.{SessionVerdict}

module _ {S : Type 0} (holds : S → SetValue) (v : NetsValue) where
  -- one answer more, for the next session
  answered_more : (ss : List (SessionValue S)) (i : ℕ) (s : SessionValue S) (answers : List SessionVerdict) (a : SessionVerdict) → slice_get ss i ≡ Some s → IsAnswerOf holds v s a → AreAnswers holds v (take i ss) answers → AreAnswers holds v (take (suc i) ss) (answers ++ a ∷ [])
  answered_more [] i s answers a at one h = cc
  answered_more (t ∷ ss) zero s [] a at one h =
      let q : Some t ≡ Some s = at in
      let same : t ≡ s = cc in
      (subst (λ (r : SessionValue S). IsAnswerOf holds v r a) (sym same) one, tt)
  answered_more (t ∷ ss) zero s (b ∷ answers) a at one h = absurd h
  answered_more (t ∷ ss) (suc i) s [] a at one h = absurd h
  answered_more (t ∷ ss) (suc i) s (b ∷ answers) a at one h = (h.0, answered_more ss i s answers a at one h.1)

  pub answered_next : (ss : List (SessionValue S)) (i : ℕ) (s : SessionValue S) (answers : List SessionVerdict) (a : SessionVerdict) → slice_get ss i ≡ Some s → IsAnswerOf holds v s a → AreAnswers holds v (take i ss) answers → AreAnswers holds v (take (i + 1) ss) (answers ++ a ∷ [])
  answered_next ss i s answers a at one h = subst (λ (n : ℕ). AreAnswers holds v (take n ss) (answers ++ a ∷ [])) (sym (add-one i)) (answered_more ss i s answers a at one h)

  answered_keys : (ss : List (SessionValue S)) (answers : List SessionVerdict) → AreAnswers holds v ss answers → map (λ (a : SessionVerdict). a.key) answers ≡ keys_in ss
  answered_keys [] [] h = refl
  answered_keys [] (a ∷ answers) h = absurd h
  answered_keys (s ∷ ss) [] h = absurd h
  answered_keys (s ∷ ss) (a ∷ answers) h =
      ap (λ (k : List ℕ). k ∷ map (λ (b : SessionVerdict). b.key) answers) h.0.key ∙ ap (λ (ks : List (List ℕ)). s.key ∷ ks) (answered_keys ss answers h.1)

  -- the session that an answer is of
  answered_one : (ss : List (SessionValue S)) (answers : List SessionVerdict) (a : SessionVerdict) → AreAnswers holds v ss answers → IsAmong answers a → (s : SessionValue S) × IsAmong ss s × IsAnswerOf holds v s a
  answered_one [] [] a h among = absurd among
  answered_one [] (b ∷ answers) a h among = absurd h
  answered_one (s ∷ ss) [] a h among = absurd h
  answered_one (s ∷ ss) (b ∷ answers) a h (inl e) = (s, inl refl, subst (λ (c : SessionVerdict). IsAnswerOf holds v s c) (sym e) h.0)
  answered_one (s ∷ ss) (b ∷ answers) a h (inr among) = let found = answered_one ss answers a h.1 among in (found.0, inr found.1, found.2)

-- where the tracks have taken the events, the answers are their verdicts
pub answers_are : {S : Type 0} (holds : S → SetValue) (t : TracksValue S) (events : List KeyedEvent) (answers : List SessionVerdict) → AreAnswers holds t.nets t.sessions answers → HaveTaken holds events t → AreVerdicts t.nets t.term t.budget events answers
answers_are {S} holds t events answers h taken = record {
  keys = answered_keys holds t.nets t.sessions answers h ∙ taken.keys;
  each = λ a among.
      let found = answered_one holds t.nets t.sessions answers a h among in
      let fed = taken.each found.0 found.1 in
      let same : events_of found.0.key events ≡ events_of a.key events = ap (λ (k : List ℕ). events_of k events) (sym found.2.key) in
      record {
        verdict_is = subst (λ (es : List LineEvent). IsTermVerdict t.nets t.term t.budget es a.verdict) same (found.2.verdict_is t.term t.budget (events_of found.0.key events) fed);
        runs = subst (λ (es : List LineEvent). TellsRuns t.nets t.term es a.verdict) same (found.2.runs t.term t.budget (events_of found.0.key events) fed);
      };
}
