-- What a basic chart writes of its instances, in the order of the text: which are declared, which are decomposed, and which are
-- named where only certain instances may be. The instances of a chart are those of its heads, of its columns, of its
-- statements `i: instance`, at any depth, and those that stand left of a colon at the outermost level (Z.120, clause 4.2).
use Rattle.std.specs.Prelude.{ℕ, Bool, true, false, List, [], ◌∷◌, map, nat_eq, Option, None, Some}
use Rattle.std.specs.List.{flat_map}
use Rattle.chart_text.specs.Texts.{Passage, a_head, a_statement, an_item, an_operand, Scope, chart_text}
use Rattle.msc_base.specs.declared.label.Kind.{Kind}
use Rattle.msc_base.specs.declared.label.Kind.TheVariants.{Output, Input, OutputLost, InputFound, Action, TimerStart, TimerStop, Timeout, Create}
use Rattle.msc_base.specs.declared.place.Place.{Place}
use Rattle.msc_tree.specs.declared.chart.Cover.{Cover}
use Rattle.msc_tree.specs.declared.chart.Cover.TheVariants.{All, Listed}
use Rattle.msc_tree.specs.declared.chart.Decl.{Decl}
use Rattle.msc_tree.specs.declared.event.RawEvent.{RawEvent}
use Rattle.msc_tree.specs.declared.event.Target.{Target}
use Rattle.msc_tree.specs.declared.event.Target.TheVariants.{Nobody, Env, Instance, Gate}
use Rattle.msc_tree.specs.Charts.{Chart, Content, Basic, HighLevel}
use Rattle.msc_tree.specs.Statements.{placed, Form, Single, Coregion, Condition, Inline, Refer, Stop, Items, no_items, item_and, Statement, Column, Covered, Heading, Ended}

pub data Note : Type 0 where
  -- an instance of the chart
  Declared : List ℕ → Note
  -- an instance that another chart refines
  Decomposed : List ℕ → Place → Note
  -- a name of an instance that has to be in the scope
  Named : List ℕ → Place → Scope → Note

abbrev pub named_notes : Scope → Place → List (List ℕ) → List Note
named_notes scope place names = map (λ n. Named n place scope) names

-- ---- declarations

abbrev pub refined_notes : List ℕ → Place → Option (List ℕ) → List Note
refined_notes name place None = []
refined_notes name place (Some chart) = Decomposed name place ∷ []

abbrev pub decl_notes : Decl → List Note
decl_notes d = Declared d.name ∷ refined_notes d.name d.place d.refined

-- ---- events

-- the other end, where it is an instance
abbrev pub far_notes : Scope → Place → Target → List Note
far_notes scope place (Instance far) = Named far place scope ∷ []
far_notes scope place Nobody = []
far_notes scope place (Env gate) = []
far_notes scope place (Gate reference gate) = []

-- the address of an output, of an input, and of a creation; what stands behind `lost` and `found` isn't looked at
abbrev pub address_notes : Scope → Place → Kind → Target → List Note
address_notes scope place Output far = far_notes scope place far
address_notes scope place Input far = far_notes scope place far
address_notes scope place Create child = far_notes scope place child
address_notes scope place OutputLost far = []
address_notes scope place InputFound far = []
address_notes scope place Action far = []
address_notes scope place TimerStart far = []
address_notes scope place TimerStop far = []
address_notes scope place Timeout far = []

abbrev pub event_notes : Scope → RawEvent → List Note
event_notes scope event = address_notes scope event.place event.kind event.target

abbrev pub events_notes : Scope → List RawEvent → List Note
events_notes scope es = flat_map (event_notes scope) es

-- ---- covers

abbrev pub shared_notes : Scope → Place → Option Cover → List Note
shared_notes scope place None = []
shared_notes scope place (Some All) = []
shared_notes scope place (Some (Listed names)) = named_notes scope place names

-- the instances that stand left of a colon: at the outermost level they are declared so; else they have to be in the scope, and have the place of the first item
abbrev pub left_notes : Bool → Scope → Cover → Items → List Note
left_notes outermost scope All items = []
left_notes true scope (Listed names) items = map Declared names
left_notes false scope (Listed names) no_items = []
left_notes false scope (Listed names) (item_and (placed place form) more) = named_notes scope place names

-- in `i: endinstance` too i stands left of a colon
abbrev pub ended_notes : Bool → List ℕ → List Note
ended_notes true name = Declared name ∷ []
ended_notes false name = []

-- ---- passages

-- an item by itself
abbrev pub item_notes : Scope → Place → Form → List Note
item_notes scope place (Single event) = event_notes scope event
item_notes scope place (Coregion events) = events_notes scope events
item_notes scope place (Condition names shared) = shared_notes scope place shared
item_notes scope place (Inline head held) = shared_notes scope place head.shared
item_notes scope place (Refer reference) = shared_notes scope place reference.shared
item_notes scope place Stop = []

-- a statement without its items
abbrev pub statement_notes : Bool → Scope → Statement → List Note
statement_notes outermost scope (Column decl held) = decl_notes decl
statement_notes outermost scope (Covered cover held) = left_notes outermost scope cover held
statement_notes outermost scope (Heading decl) = decl_notes decl
statement_notes outermost scope (Ended name) = ended_notes outermost name

abbrev pub passage_notes : Passage → List Note
passage_notes (a_head decl) = decl_notes decl
passage_notes (a_statement depth scope x) = statement_notes (nat_eq depth 0) scope x
passage_notes (an_item s place form) = item_notes s.scope place form
passage_notes (an_operand s x) = []

-- the heads of a high-level chart have no use
abbrev pub used_notes : Content → List Note → List Note
used_notes (Basic held) notes = notes
used_notes (HighLevel drawn) notes = []

-- of a whole chart
abbrev pub chart_notes : Chart → List Note
chart_notes chart = used_notes chart.content (flat_map passage_notes (chart_text chart))
