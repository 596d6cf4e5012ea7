-- What a judge of sessions has been fed.
use Rattle.std.specs.Prelude.{ℕ, ◌≡◌, Bool, false, true, List, Option, Some, None}
use Rattle.term_tables.specs.NetValues.{NetsValue}
use Rattle.chart_term.specs.Terms.{Tree}
use Rattle.event_log.specs.RuledStates.{ReaderState}
use Rattle.event_log.specs.declared.event.LogForm.{LogForm}
use Rattle.session_log.specs.Sessions.{session_rules}
use Rattle.session_log.specs.declared.keyed.KeyedEvent.{KeyedEvent}
use Rattle.trace_judge.specs.Sets.{SetValue}
use Rattle.log_judge.specs.RuledTaking as ruled
use Rattle.log_judge.specs.declared.fault.JudgeFault.{JudgeFault}
use Rattle.session_judge.specs.Tracks.{SessionValue, TracksValue, HaveAtMost, HaveTaken}

-- the reader of a log of sessions
abbrev pub SessionState : Type 0
SessionState = ReaderState KeyedEvent (List (List ℕ))

-- a judge of sessions over a store
pub record SessionsValue (S : Type 0) : Type 0 where
  pub reader : SessionState
  pub tracks : TracksValue S
  pub fault : Option JudgeFault

module _ {S : Type 0} where
  -- the reader has handed out so many events that no track has taken more
  pub record IsCounted (s : SessionState) (sessions : List (SessionValue S)) : Type 0 where
    pub handed : ℕ
    pub counted : ruled.IsCounted session_rules s handed
    pub few : HaveAtMost handed sessions

  -- so it is as long as there is no fault
  abbrev pub IsCountedIf : Option JudgeFault → SessionState → List (SessionValue S) → Type 0
  IsCountedIf None s sessions = IsCounted s sessions
  IsCountedIf (Some fault) s sessions = Unit {0}

  -- what holds of each judge: its log hasn't ended, and its reader numbers labels as the tables do
  pub record IsKept (s : SessionState) (t : TracksValue S) (fault : Option JudgeFault) : Type 0 where
    pub goes_on : s.finished ≡ false
    pub counted : IsCountedIf fault s t.sessions
    pub labels : s.labels ≡ t.nets.labels

  -- the sessions are judged over these tables, by this term and within this budget
  pub record AreMade (v : NetsValue) (x : Tree) (budget : ℕ) (t : TracksValue S) : Type 0 where
    pub nets_are : t.nets ≡ v
    pub term_is : t.term ≡ x
    pub budget_is : t.budget ≡ budget

  module _ (holds : S → SetValue) where
    -- some events of the reader's were taken
    abbrev pub TakesSome : LogForm → Bool → List ℕ → SessionState → TracksValue S → Type 0
    TakesSome form goes_on bytes s t = ruled.TakesSome session_rules (HaveTaken holds) form goes_on bytes s t

    -- all events were taken that the bytes hold
    abbrev pub TakesAll : LogForm → Bool → List ℕ → SessionState → TracksValue S → Type 0
    TakesAll form goes_on bytes s t = ruled.TakesAll session_rules (HaveTaken holds) form goes_on bytes s t

    -- the bytes are a log, and its events were taken
    abbrev pub TakesLog : LogForm → List ℕ → TracksValue S → Type 0
    TakesLog form bytes t = ruled.TakesLog session_rules (HaveTaken holds) form bytes t

    -- all events of the lines that have ended were taken
    pub record IsGoing (v : NetsValue) (x : Tree) (form : LogForm) (budget : ℕ) (bytes : List ℕ) (j : SessionsValue S) : Type 0 where
      pub made : AreMade v x budget j.tracks
      pub goes_on : j.reader.finished ≡ false
      pub takes : TakesAll form true bytes j.reader j.tracks

    -- a judge that met this fault: what it was made for stays
    pub record HasStopped (fault : JudgeFault) (v : NetsValue) (x : Tree) (form : LogForm) (budget : ℕ) (bytes : List ℕ) (j : SessionsValue S) : Type 0 where
      pub made : AreMade v x budget j.tracks
      pub behind : ruled.IsBehind session_rules fault form bytes j.reader

    -- a judge with this fault, or without one
    abbrev pub Stands : Option JudgeFault → NetsValue → Tree → LogForm → ℕ → List ℕ → SessionsValue S → Type 0
    Stands None v x form budget bytes j = IsGoing v x form budget bytes j
    Stands (Some fault) v x form budget bytes j = HasStopped fault v x form budget bytes j

    -- the judge was made for these tables, this term, this form of log and this budget, and has been fed these bytes
    abbrev pub Fed : NetsValue → Tree → LogForm → ℕ → List ℕ → SessionsValue S → Type 0
    Fed v x form budget bytes j = Stands j.fault v x form budget bytes j
