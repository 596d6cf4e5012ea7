-- The sessions of a log: the keys of its events, and the events of each key.
use Rattle.std.specs.Prelude.{ℕ, List, [], map, fold}
use Rattle.std.specs.List.{filter}
use Rattle.std.specs.Str.{bytes_eq}
use Rattle.line_events.specs.declared.event.LineEvent.{LineEvent}
use Rattle.msc_base.specs.NameTables.{with_name}
use Rattle.session_log.specs.declared.keyed.KeyedEvent.{KeyedEvent}

-- the event as one of its session, whose lines are those of the whole log
abbrev pub line_event : KeyedEvent → LineEvent
line_event e = record { label = e.label; line = e.line }

-- the events with this key, in their order
abbrev pub events_of : List ℕ → List KeyedEvent → List LineEvent
events_of key events = map line_event (filter (λ (e : KeyedEvent). bytes_eq e.key key) events)

-- the keys of the events, each once, in the order of their first lines
abbrev pub keys_of : List KeyedEvent → List (List ℕ)
keys_of events = fold with_name [] (map (λ (e : KeyedEvent). e.key) events)
