-- How a track takes the events of a log from its reader.
use Rattle.std.specs.Prelude.{ℕ, Bool, List}
use Rattle.term_tables.specs.NetValues.{NetsValue}
use Rattle.chart_term.specs.Terms.{Tree}
use Rattle.event_log.specs.Logs.{log_rules}
use Rattle.event_log.specs.States.{LogState}
use Rattle.line_events.specs.declared.event.LineEvent.{LineEvent}
use Rattle.event_log.specs.declared.event.LogForm.{LogForm}
use Rattle.trace_judge.specs.Sets.{SetValue}
use Rattle.trace_judge.specs.Tracks.{TrackValue}
use Rattle.trace_judge.specs.Tracks as track
use Rattle.log_judge.specs.RuledTaking as ruled
use Rattle.log_judge.specs.declared.fault.JudgeFault.{JudgeFault}

-- the reader was made for some form, and has handed out so many events of some bytes
abbrev pub IsCounted : LogState → ℕ → Type 0
IsCounted s n = ruled.IsCounted log_rules s n

-- what stands behind a fault of the judge; nothing is known after want of memory
abbrev pub IsBehind : JudgeFault → LogForm → List ℕ → LogState → Type 0
IsBehind fault form bytes s = ruled.IsBehind log_rules fault form bytes s

module _ {S : Type 0} (holds : S → SetValue) where
  -- the track was made for these tables, this term and this budget, and has taken some events
  pub record IsFollowing (v : NetsValue) (x : Tree) (budget : ℕ) (t : TrackValue S) : Type 0 where
    pub events : List LineEvent
    pub taken : track.Fed holds v x budget events t

  -- it has taken some events of the reader's
  abbrev pub TakesSome : NetsValue → Tree → LogForm → ℕ → Bool → List ℕ → LogState → TrackValue S → Type 0
  TakesSome v x form budget goes_on bytes s t = ruled.TakesSome log_rules (track.Fed holds v x budget) form goes_on bytes s t

  -- it has taken all events that the bytes hold
  abbrev pub TakesAll : NetsValue → Tree → LogForm → ℕ → Bool → List ℕ → LogState → TrackValue S → Type 0
  TakesAll v x form budget goes_on bytes s t = ruled.TakesAll log_rules (track.Fed holds v x budget) form goes_on bytes s t

  -- the bytes are a log, and the track has taken its events
  abbrev pub TakesLog : NetsValue → Tree → LogForm → ℕ → List ℕ → TrackValue S → Type 0
  TakesLog v x form budget bytes t = ruled.TakesLog log_rules (track.Fed holds v x budget) form bytes t
