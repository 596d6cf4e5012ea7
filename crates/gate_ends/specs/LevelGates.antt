-- What a level of a table says of the gates of its references and inline expressions.
use Rattle.std.specs.Prelude.{◌≡◌, ℕ, List, [], ◌∷◌, map}
use Rattle.std.specs.List.{flat_map}
use Rattle.msc_unfolding.specs.Unfoldings.{Tag, On}
use Rattle.msc_meaning.specs.Bodies.{Body, level, WovenItems}
use Rattle.msc_meaning.specs.Calls.{Caller, an_event, a_gate, Call}
use Rattle.msc_meaning.specs.ChartUnfoldings.{gates_of}
use Rattle.msc_meaning.specs.FarEnds.{Gates}
use Rattle.msc_meaning.specs.Tables.{Table}
use Rattle.msc_meaning.specs.declared.body.ChartEntry.{ChartEntry}
use Rattle.gate_ends.specs.FoundEnds.{table_ends}

abbrev pub level_gates : Table → WovenItems → Gates
level_gates table held = gates_of held (table_ends table held)

-- the items of a level
abbrev pub items_in : Body → WovenItems
items_in (level cover held pairs) = held

-- the names of the charts, in their order
abbrev pub HasNames : List ChartEntry → List (List ℕ) → Type 0
HasNames charts names = names ≡ map (λ (c : ChartEntry). c.name) charts

-- the gate, where an event calls it
abbrev pub tag_by : Call → Caller → List Tag
tag_by c (an_event n) = On c.name c.gate ∷ []
tag_by c (a_gate name gate) = []

-- the gates that events call
abbrev pub event_tags : List Call → List Tag
event_tags cs = flat_map (λ c. tag_by c c.by) cs
