-- The events of a log of many sessions: which a line is, and for how many sessions there is room.
use Rattle.std.specs.Prelude.{◌≡◌, ◌≤◌, ℕ, Bool, ◌||◌, List, [], ◌∷◌, length, Option, Some, codes, position}
use Rattle.std.specs.Str.{bytes_eq}
use Rattle.serde_json.specs.Data.{Data}
use Rattle.label_table.specs.Labels.{label_number}
use Rattle.msc_base.specs.Names.{IsName}
use Rattle.msc_base.specs.NameTables.{with_name}
use Rattle.msc_base.specs.declared.label.Label.{Label}
use Rattle.event_log.specs.Meanings.{IsEventOf}
use Rattle.event_log.specs.Objects.{is_event_member, HasMembers, HasEvent, text_at}
use Rattle.event_log.specs.RuledLogs as ruled
use Rattle.event_log.specs.Rules.{Rules}
use Rattle.event_log.specs.declared.event.LogFault.{LogFault}
use Rattle.event_log.specs.declared.event.LogForm.{LogForm}
use Rattle.event_log.specs.declared.event.Version.{Version}
use Rattle.session_log.specs.declared.keyed.KeyedEvent.{KeyedEvent}
use Rattle.session_log.specs.declared.keyed.KeyedLabel.{KeyedLabel}
use Rattle.session_log.specs.declared.keyed.KeyedNumberedEvent.{KeyedNumberedEvent}
use Rattle.session_log.specs.declared.keys.TheConstants.{MOST_SESSIONS}

-- the tokens are the key of a session, `=`, and an event as a log of one run has it
pub record IsKeyedEvent (version : Version) (tokens : List (List ℕ)) (event : KeyedLabel) : Type 0 where
  pub rest : List (List ℕ)
  pub are : tokens ≡ event.key ∷ codes "=" ∷ rest
  pub name : IsName event.key
  pub is : IsEventOf version rest event.label

abbrev pub is_session_member : List ℕ → Bool
is_session_member k = is_event_member k || bytes_eq k (codes "session")

-- the value is an object that is an event as a log of one run has it, with one member more, the key of its session
pub record IsKeyedObject (version : Version) (d : Data) (event : KeyedLabel) : Type 0 where
  pub only : HasMembers is_session_member d
  pub key_is : text_at (codes "session") d ≡ Some event.key
  pub name : IsName event.key
  pub is : HasEvent version d event.label

-- a log with these keys has room for an event with this one: with it they are no more than a log may have
abbrev pub HasRoom : List (List ℕ) → List ℕ → Type 0
HasRoom keys key = length (with_name keys key) ≤ MOST_SESSIONS

-- a log of sessions has met the keys of its events, each once, in the order of their first lines
abbrev pub session_rules : Rules KeyedLabel KeyedEvent (List (List ℕ))
session_rules = record {
  tokens_are = IsKeyedEvent;
  value_is = IsKeyedObject;
  label_of = λ event. event.label;
  event_at = λ event line. record { key = event.key; label = event.label; line = line };
  none_met = [];
  with_event = λ keys event. with_name keys event.key;
  has_room = λ keys event. HasRoom keys event.key;
}

-- The log's events up to its first fault, and the fault, if there is one. Of a text that goes on: the events and the fault that are
-- decided within these bytes, whatever follows.
abbrev pub SessionsOf : LogForm → Bool → List ℕ → List KeyedEvent → Option LogFault → Type 0
SessionsOf form goes_on bytes events fault = ruled.LogOf session_rules form goes_on bytes events fault

-- the bytes hold, before any fault, this event as that of this number from 0
abbrev pub HoldsEvent : LogForm → Bool → List ℕ → ℕ → KeyedEvent → Type 0
HoldsEvent form goes_on bytes n event = ruled.HoldsEvent session_rules form goes_on bytes n event

-- the event without its numbers
abbrev pub event_of : KeyedNumberedEvent → KeyedEvent
event_of e = e.event

-- it has the number of its label, and that of its session: the place of its key among those that have been met
abbrev pub IsNumbered : List Label → List (List ℕ) → KeyedNumberedEvent → Type 0
IsNumbered labels keys e = (e.number ≡ label_number labels e.event.label) × (position (bytes_eq e.event.key) keys ≡ Some e.session)
