-- What a kind of log has in its lines: which events, and how many it has room for.
use Rattle.std.specs.Prelude.{ℕ, List}
use Rattle.serde_json.specs.Data.{Data}
use Rattle.msc_base.specs.declared.label.Label.{Label}
use Rattle.event_log.specs.declared.event.Version.{Version}

-- By these rules a log has events: S is what a line says of its event, E an event with the number of its line, and K what of the
-- events so far decides which may follow.
pub record Rules (S E K : Type 0) : Type 1 where
  -- the tokens of a line are this event
  pub tokens_are : Version → List (List ℕ) → S → Type 0
  -- the JSON value of a line is this event
  pub value_is : Version → Data → S → Type 0
  pub label_of : S → Label
  -- the event in the line of this number
  pub event_at : S → ℕ → E
  -- what has been met before the first event
  pub none_met : K
  -- what has been met with this event
  pub with_event : K → S → K
  -- where so much has been met, the log has room for this event
  pub has_room : K → S → Type 0
