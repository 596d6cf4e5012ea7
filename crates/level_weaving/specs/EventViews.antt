-- Serves private contracts alone.
-- The plain events that those of the code stand for.
use Rattle.level_weaving.specs.declared.events.PlacedEvent.{PlacedEvent}
use Rattle.msc_meaning.specs.Bodies.{EventNode}

abbrev pub event_view : PlacedEvent → EventNode
event_view e = record { number = e.number; at = e.at.now; event = e.event.now }
