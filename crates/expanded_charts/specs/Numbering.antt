-- The instances and the labels of events, each once, under numbers; and events by these numbers.
use Rattle.std.specs.List.{list_any, position}
use Rattle.std.specs.Option.{unwrap_or}
use Rattle.std.specs.Prelude.{ℕ, Bool, true, false, List, [], ◌∷◌, ◌++◌, Option, None, Some, fold, if◌then◌else◌, nat_lt, option_map}
use Rattle.std.specs.Str.{bytes_eq}
use Rattle.msc_base.specs.declared.label.Label.{Label}
use Rattle.msc_base.specs.NameTables.{with_name}
use Rattle.label_table.specs.Labels.{label_number, same_label}
use Rattle.expansion_tree.specs.Expansions.{Expansion, events_in, map_events}
use Rattle.expansion_tree.specs.Numbered as numbered
use Rattle.expansion_tree.specs.declared.tree.ExpandedEvent.{ExpandedEvent}
use Rattle.expanded_charts.specs.Expanding.{NumberedEvent}
use Rattle.expanded_charts.specs.declared.numbering.Numbering.{Numbering}

-- ---- what has numbers

abbrev pub with_second : List (List ℕ) → Option (List ℕ) → List (List ℕ)
with_second names None = names
with_second names (Some i) = with_name names i

-- the labels, with one more where it is new
abbrev pub with_label : List Label → Label → List Label
with_label labels l = if list_any (same_label l) labels then labels else labels ++ l ∷ []

abbrev pub with_event : Numbering → NumberedEvent → Numbering
with_event s e = record { names = with_second (with_name s.names e.happening.label.at) e.happening.also; labels = with_label s.labels e.happening.label }

-- in the order in which they first stand, behind those that were there
abbrev pub with_events : Numbering → List NumberedEvent → Numbering
with_events s es = fold with_event s es

abbrev pub numbering_of : Expansion NumberedEvent → Numbering
numbering_of x = with_events (record { names = []; labels = [] }) (events_in x)

-- ---- events by these numbers

-- the lower of two instances first
abbrev pub at_two : Bool → ℕ → ℕ → ℕ → ℕ → ExpandedEvent
at_two true n label i j = record { number = n; at = j; also = Some i; label = label }
at_two false n label i j = record { number = n; at = i; also = Some j; label = label }

abbrev pub at_instances : ℕ → ℕ → ℕ → Option ℕ → ExpandedEvent
at_instances n label i None = record { number = n; at = i; also = None; label = label }
at_instances n label i (Some j) = at_two (nat_lt j i) n label i j

-- an instance and a label that aren't there have the number 0, which no event of a numbering's own expansion needs
abbrev pub instance_number : Numbering → List ℕ → ℕ
instance_number s i = unwrap_or (position (bytes_eq i) s.names) 0

abbrev pub number_of_label : Numbering → Label → ℕ
number_of_label s l = unwrap_or (label_number s.labels l) 0

abbrev pub event_by : Numbering → NumberedEvent → ExpandedEvent
event_by s e = at_instances e.number (number_of_label s e.happening.label) (instance_number s e.happening.label.at) (option_map (instance_number s) e.happening.also)

-- the expansion with its events by these numbers
abbrev pub numbered_by : Numbering → Expansion NumberedEvent → numbered.Expansion
numbered_by s x = map_events (event_by s) x
