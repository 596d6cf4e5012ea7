-- The tracks of a log's sessions.
use Rattle.std.specs.Prelude.{ℕ, ◌≡◌, ◌≤◌, List, map}
use Rattle.msc_base.specs.Lists.{IsAmong}
use Rattle.msc_base.specs.declared.limits.TheConstants.Limits.{BUDGET_MOST}
use Rattle.term_tables.specs.NetValues.{NetsValue}
use Rattle.chart_term.specs.Terms.{Tree}
use Rattle.session_log.specs.declared.keyed.KeyedEvent.{KeyedEvent}
use Rattle.trace_judge.specs.Sets.{SetValue, IsSoundFor}
use Rattle.trace_judge.specs.Tracks.{TrackValue, IfHeld, Fed}
use Rattle.session_judge.specs.SessionEvents.{events_of, keys_of}

-- a session: its key, and the track of its events
pub record SessionValue (S : Type 0) : Type 0 where
  pub key : List ℕ
  pub track : TrackValue S

-- sessions in the order of their first lines, which are judged over these tables, by this term and within this budget
pub record TracksValue (S : Type 0) : Type 0 where
  pub nets : NetsValue
  pub term : Tree
  pub budget : ℕ
  pub sessions : List (SessionValue S)

module _ {S : Type 0} where
  abbrev pub keys_in : List (SessionValue S) → List (List ℕ)
  keys_in sessions = map (λ (s : SessionValue S). s.key) sessions

  -- what the sessions are judged by stays
  pub record StaysMade (old new : TracksValue S) : Type 0 where
    pub nets : new.nets ≡ old.nets
    pub term : new.term ≡ old.term
    pub budget : new.budget ≡ old.budget

  -- each track has taken so many events at most
  abbrev pub HaveAtMost : ℕ → List (SessionValue S) → Type 0
  HaveAtMost n sessions = (s : SessionValue S) → IsAmong sessions s → s.track.events ≤ n

  -- each track's set serves the tables
  abbrev pub EachServes : (S → NetsValue → Type 0) → NetsValue → List (SessionValue S) → Type 0
  EachServes serves v sessions = (s : SessionValue S) → IsAmong sessions s → IfHeld (λ set. serves set v) s.track

  -- what holds of the tracks at any time: a new track can be made, and each one's set serves the tables
  pub record AreKept (serves : S → NetsValue → Type 0) (v : NetsValue) (x : Tree) (budget : ℕ) (sessions : List (SessionValue S)) : Type 0 where
    pub sound : IsSoundFor v x
    pub least : 1 ≤ budget
    pub most : budget ≤ BUDGET_MOST
    pub serving : EachServes serves v sessions

  module _ (holds : S → SetValue) where
    -- each track has taken the events of its key among these, and there is one for each key
    pub record HaveTaken (events : List KeyedEvent) (t : TracksValue S) : Type 0 where
      pub keys : keys_in t.sessions ≡ keys_of events
      pub each : (s : SessionValue S) → IsAmong t.sessions s → Fed holds t.nets t.term t.budget (events_of s.key events) s.track
