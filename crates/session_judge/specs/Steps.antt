-- Serves private contracts alone.
-- How one event changes the sessions of a log, and what their verdicts are.
use Rattle.std.specs.Prelude.{ℕ, ◌≡◌, ◌+◌, ◌++◌, ◌∷◌, [], List, Option, Some, slice_get, slice_set}
use Rattle.term_tables.specs.NetValues.{NetsValue}
use Rattle.chart_term.specs.Terms.{Tree}
use Rattle.line_events.specs.declared.event.LineEvent.{LineEvent}
use Rattle.trace_judge.specs.Sets.{SetValue}
use Rattle.trace_judge.specs.Steps.{ForLabels}
use Rattle.trace_judge.specs.Tracks.{TrackValue, Fed}
use Rattle.trace_judge.specs.Verdicts.{IsTermVerdict, TellsRuns}
use Rattle.session_judge.specs.Tracks.{SessionValue}
use Rattle.session_judge.specs.declared.verdict.SessionVerdict.{SessionVerdict}

module _ {S : Type 0} (holds : S → SetValue) where
  -- the session took an event with this number, in this line
  pub record Takes (v : NetsValue) (number : Option ℕ) (line : ℕ) (old new : SessionValue S) : Type 0 where
    pub key : new.key ≡ old.key
    pub count : new.track.events ≡ old.track.events + 1
    pub fed : (x : Tree) (budget : ℕ) (events : List LineEvent) → Fed holds v x budget events old.track
        → ForLabels v number (λ label. Fed holds v x budget (events ++ record { label = label; line = line } ∷ []) new.track)

  -- the session at this place did
  pub record TakesAt (v : NetsValue) (place : ℕ) (number : Option ℕ) (line : ℕ) (old new : List (SessionValue S)) : Type 0 where
    pub session : SessionValue S
    pub next : SessionValue S
    pub was : slice_get old place ≡ Some session
    pub is : new ≡ slice_set old place next
    pub takes : Takes v number line session next

  -- a session with this key has begun with such an event, behind the others
  pub record Begins (v : NetsValue) (x : Tree) (budget : ℕ) (key : List ℕ) (number : Option ℕ) (line : ℕ) (old new : List (SessionValue S)) : Type 0 where
    pub next : SessionValue S
    pub is : new ≡ old ++ next ∷ []
    pub key_is : next.key ≡ key
    pub count : next.track.events ≡ 1
    pub fed : ForLabels v number (λ label. Fed holds v x budget (record { label = label; line = line } ∷ []) next.track)

  -- the verdict of the session
  pub record IsAnswerOf (v : NetsValue) (s : SessionValue S) (a : SessionVerdict) : Type 0 where
    pub key : a.key ≡ s.key
    pub verdict_is : (x : Tree) (budget : ℕ) (events : List LineEvent) → Fed holds v x budget events s.track → IsTermVerdict v x budget events a.verdict
    pub runs : (x : Tree) (budget : ℕ) (events : List LineEvent) → Fed holds v x budget events s.track → TellsRuns v x events a.verdict

  -- one verdict for each session
  abbrev pub AreAnswers : NetsValue → List (SessionValue S) → List SessionVerdict → Type 0
  AreAnswers v [] [] = Unit {0}
  AreAnswers v [] (a ∷ answers) = ⊥
  AreAnswers v (s ∷ sessions) [] = ⊥
  AreAnswers v (s ∷ sessions) (a ∷ answers) = IsAnswerOf v s a × AreAnswers v sessions answers
