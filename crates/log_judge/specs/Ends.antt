-- What the end of a log leaves.
use Rattle.std.specs.Prelude.{ℕ, ◌≡◌, List}
use Rattle.chart_term.specs.Terms.{Tree}
use Rattle.event_log.specs.declared.event.LogForm.{LogForm}
use Rattle.term_tables.specs.NetValues.{NetsValue}
use Rattle.trace_judge.specs.Sets.{SetValue}
use Rattle.trace_judge.specs.Tracks.{TrackValue}
use Rattle.log_judge.specs.Taking.{TakesLog}

module _ {S : Type 0} (holds : S → SetValue) where
  -- the tables are those of the term, the bytes are a log, and the track has taken its events
  pub record HasEnded (v : NetsValue) (x : Tree) (form : LogForm) (budget : ℕ) (bytes : List ℕ) (nets : NetsValue) (t : TrackValue S) : Type 0 where
    pub nets_are : nets ≡ v
    pub takes : TakesLog holds v x form budget bytes t
