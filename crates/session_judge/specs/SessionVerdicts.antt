-- What the sessions of a log are for a term: a verdict on the events of each.
use Rattle.std.specs.Prelude.{ℕ, ◌≡◌, false, List, map, None}
use Rattle.msc_base.specs.Lists.{IsAmong}
use Rattle.term_tables.specs.NetValues.{NetsValue}
use Rattle.chart_term.specs.Terms.{Tree}
use Rattle.event_log.specs.RuledStates.{IsFaultOf}
use Rattle.event_log.specs.declared.event.LogForm.{LogForm}
use Rattle.session_log.specs.Sessions.{session_rules}
use Rattle.session_log.specs.declared.keyed.KeyedEvent.{KeyedEvent}
use Rattle.trace_judge.specs.Verdicts.{IsTermVerdict, TellsRuns}
use Rattle.session_judge.specs.SessionEvents.{events_of, keys_of}
use Rattle.session_judge.specs.declared.verdict.SessionVerdict.{SessionVerdict}

-- the verdict on the events of this key among these
pub record IsVerdictOf (v : NetsValue) (x : Tree) (budget : ℕ) (events : List KeyedEvent) (a : SessionVerdict) : Type 0 where
  pub verdict_is : IsTermVerdict v x budget (events_of a.key events) a.verdict
  pub runs : TellsRuns v x (events_of a.key events) a.verdict

-- one verdict for each key of the events, in the order of their first lines
pub record AreVerdicts (v : NetsValue) (x : Tree) (budget : ℕ) (events : List KeyedEvent) (answers : List SessionVerdict) : Type 0 where
  pub keys : map (λ (a : SessionVerdict). a.key) answers ≡ keys_of events
  pub each : (a : SessionVerdict) → IsAmong answers a → IsVerdictOf v x budget events a

-- the bytes are a log of sessions, and these are the verdicts on each
pub record AreJudged (v : NetsValue) (x : Tree) (form : LogForm) (budget : ℕ) (bytes : List ℕ) (answers : List SessionVerdict) : Type 0 where
  pub log : IsFaultOf session_rules form false bytes None
  pub verdicts : AreVerdicts v x budget log.events answers
