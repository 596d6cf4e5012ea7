-- The events of a log as numbers.
use Rattle.std.specs.Prelude.{ℕ, List, map, length, Option, Some, None}
use Rattle.msc_base.specs.declared.label.Label.{Label}
use Rattle.label_table.specs.Labels.{label_number}
use Rattle.line_events.specs.declared.event.LineEvent.{LineEvent}

-- the number, or another where there is none
abbrev pub number_or : Option ℕ → ℕ → ℕ
number_or None n = n
number_or (Some m) n = m

-- the number of a label in a table; one that the table lacks has the number behind the last, which is no label's
abbrev pub number_in : List Label → Label → ℕ
number_in table label = number_or (label_number table label) (length table)

-- the numbers of the labels of events
abbrev pub numbers_in : List Label → List LineEvent → List ℕ
numbers_in table events = map (λ (e : LineEvent). number_in table e.label) events
