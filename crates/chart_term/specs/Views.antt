-- The values that events and pairs of the code stand for.
pub use Rattle.term_facts.specs.PlainOrder.{pair_of, pairs_of}
use Rattle.chart_term.specs.declared.event.Event.{Event}
use Rattle.chart_term.specs.declared.event.StoredEvent.{StoredEvent}
use Rattle.chart_term.specs.Terms.{TermEvent}

-- the event
abbrev pub event_of : Event → TermEvent
event_of e = record { number = e.number; at = e.at; also = e.also; label = e.label }

-- the event that a node stores
abbrev pub stored_event : StoredEvent → TermEvent
stored_event e = record { number = e.number; at = e.at; also = e.also; label = e.label }
