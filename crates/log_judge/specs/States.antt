-- What a judge has been fed.
use Rattle.std.specs.Prelude.{ℕ, ◌≡◌, false, true, List, Option, Some, None}
use Rattle.term_tables.specs.NetValues.{NetsValue}
use Rattle.chart_term.specs.Terms.{Tree}
use Rattle.event_log.specs.States.{LogState}
use Rattle.event_log.specs.declared.event.LogForm.{LogForm}
use Rattle.trace_judge.specs.Sets.{SetValue}
use Rattle.trace_judge.specs.Tracks.{TrackValue, IfHeld}
use Rattle.log_judge.specs.Taking.{IsBehind, IsCounted, IsFollowing, TakesAll}
use Rattle.log_judge.specs.declared.fault.JudgeFault.{JudgeFault}

-- a judge over a store
pub record JudgeValue (S : Type 0) : Type 0 where
  pub reader : LogState
  pub nets : NetsValue
  pub track : TrackValue S
  pub fault : Option JudgeFault

-- as long as there is no fault the track has taken as many events as the reader handed out
abbrev pub IsCountedIf : Option JudgeFault → LogState → ℕ → Type 0
IsCountedIf None s n = IsCounted s n
IsCountedIf (Some fault) s n = Unit {0}

-- what holds of each judge: its set serves its tables, its log hasn't ended, and its reader numbers labels as the tables do
pub record IsKept {S : Type 0} (serves : S → NetsValue → Type 0) (s : LogState) (v : NetsValue) (t : TrackValue S) (fault : Option JudgeFault) : Type 0 where
  pub serving : IfHeld (λ set. serves set v) t
  pub goes_on : s.finished ≡ false
  pub counted : IsCountedIf fault s t.events
  pub labels : s.labels ≡ v.labels

module _ {S : Type 0} (holds : S → SetValue) where
  -- all events of the lines that have ended were taken
  pub record IsGoing (v : NetsValue) (x : Tree) (form : LogForm) (budget : ℕ) (bytes : List ℕ) (j : JudgeValue S) : Type 0 where
    pub nets_are : j.nets ≡ v
    pub goes_on : j.reader.finished ≡ false
    pub takes : TakesAll holds v x form budget true bytes j.reader j.track

  -- a judge that met this fault: what it was made for stays
  pub record HasStopped (fault : JudgeFault) (v : NetsValue) (x : Tree) (form : LogForm) (budget : ℕ) (bytes : List ℕ) (j : JudgeValue S) : Type 0 where
    pub nets_are : j.nets ≡ v
    pub follows : IsFollowing holds v x budget j.track
    pub behind : IsBehind fault form bytes j.reader

  -- a judge with this fault, or without one
  abbrev pub Stands : Option JudgeFault → NetsValue → Tree → LogForm → ℕ → List ℕ → JudgeValue S → Type 0
  Stands None v x form budget bytes j = IsGoing v x form budget bytes j
  Stands (Some fault) v x form budget bytes j = HasStopped fault v x form budget bytes j

  -- the judge was made for these tables, this term, this form of log and this budget, and has been fed these bytes
  abbrev pub Fed : NetsValue → Tree → LogForm → ℕ → List ℕ → JudgeValue S → Type 0
  Fed v x form budget bytes j = Stands j.fault v x form budget bytes j
