-- The creations of a chart that may not be: of a child that is created before, that is the creator, or that is decomposed
-- (Z.120, clause 4.10).
use Rattle.std.specs.Prelude.{◌&&◌, ◌||◌, ℕ, Bool, true, false, List, [], ◌∷◌, ◌++◌}
use Rattle.std.specs.List.{list_any}
use Rattle.std.specs.Str.{bytes_eq}
use Rattle.chart_text.specs.Gathering.{place_if}
use Rattle.chart_text.specs.Texts.{Passage, a_head, a_statement, an_item, an_operand, Scope, Whole, Within, Side, own_scope, chart_text}
use Rattle.creation_rules.specs.Placing.{is_creation}
use Rattle.msc_base.specs.Lists.{IsAmong}
use Rattle.msc_base.specs.NameTables.{with_name}
use Rattle.msc_base.specs.declared.place.Place.{Place}
use Rattle.msc_instances.specs.Notes.{Note, Declared, Decomposed, Named, chart_notes}
use Rattle.msc_tree.specs.Charts.{Chart}
use Rattle.msc_tree.specs.Directions.{far_name}
use Rattle.msc_tree.specs.Statements.{Form, Single, Coregion, Condition, Inline, Refer, Stop}
use Rattle.msc_tree.specs.declared.event.RawEvent.{RawEvent}

-- the names, with the instances that the notes say are decomposed behind them, each once
abbrev pub with_decomposed : List (List ℕ) → List Note → List (List ℕ)
with_decomposed names [] = names
with_decomposed names (Declared name ∷ notes) = with_decomposed names notes
with_decomposed names (Decomposed name place ∷ notes) = with_decomposed (with_name names name) notes
with_decomposed names (Named name place scope ∷ notes) = with_decomposed names notes

-- the instances of a chart that are decomposed
abbrev pub decomposed : Chart → List (List ℕ)
decomposed chart = with_decomposed [] (chart_notes chart)

-- ---- one event, where these instances are decomposed, and these were created before

-- the child is the instance at which the event stands; no event stands at all of them
abbrev pub is_creator : Scope → List ℕ → Bool
is_creator Whole child = false
is_creator (Within names) child = list_any (bytes_eq child) names

abbrev pub is_barred : List (List ℕ) → List (List ℕ) → Side → List ℕ → Bool
is_barred refined before side child = list_any (bytes_eq child) before || (list_any (bytes_eq child) refined || is_creator (own_scope side) child)

abbrev pub barred_event : List (List ℕ) → List (List ℕ) → Side → RawEvent → List Place
barred_event refined before side event = place_if (is_creation event.kind && is_barred refined before side (far_name event.target)) event.place

abbrev pub with_child : Bool → List (List ℕ) → List ℕ → List (List ℕ)
with_child true before child = with_name before child
with_child false before child = before

-- those that were created behind it
abbrev pub event_creates : List (List ℕ) → RawEvent → List (List ℕ)
event_creates before event = with_child (is_creation event.kind) before (far_name event.target)

-- ---- the text, in its order

abbrev pub barred_events : List (List ℕ) → List (List ℕ) → Side → List RawEvent → List Place
barred_events refined before side [] = []
barred_events refined before side (e ∷ es) = barred_event refined before side e ++ barred_events refined (event_creates before e) side es

abbrev pub events_create : List (List ℕ) → List RawEvent → List (List ℕ)
events_create before [] = before
events_create before (e ∷ es) = events_create (event_creates before e) es

abbrev pub barred_item : List (List ℕ) → List (List ℕ) → Side → Form → List Place
barred_item refined before side (Single event) = barred_event refined before side event
barred_item refined before side (Coregion events) = barred_events refined before side events
barred_item refined before side (Condition names shared) = []
barred_item refined before side (Inline head held) = []
barred_item refined before side (Refer reference) = []
barred_item refined before side Stop = []

abbrev pub item_creates : List (List ℕ) → Form → List (List ℕ)
item_creates before (Single event) = event_creates before event
item_creates before (Coregion events) = events_create before events
item_creates before (Condition names shared) = before
item_creates before (Inline head held) = before
item_creates before (Refer reference) = before
item_creates before Stop = before

abbrev pub barred_passage : List (List ℕ) → List (List ℕ) → Passage → List Place
barred_passage refined before (a_head decl) = []
barred_passage refined before (a_statement depth scope x) = []
barred_passage refined before (an_item s place form) = barred_item refined before s.side form
barred_passage refined before (an_operand s x) = []

abbrev pub passage_creates : List (List ℕ) → Passage → List (List ℕ)
passage_creates before (a_head decl) = before
passage_creates before (a_statement depth scope x) = before
passage_creates before (an_item s place form) = item_creates before form
passage_creates before (an_operand s x) = before

abbrev pub barred_creations : List (List ℕ) → List (List ℕ) → List Passage → List Place
barred_creations refined before [] = []
barred_creations refined before (x ∷ xs) = barred_passage refined before x ++ barred_creations refined (passage_creates before x) xs

abbrev pub chart_barred : Chart → List Place
chart_barred chart = barred_creations (decomposed chart) [] (chart_text chart)

-- at that place of the chart a creation stands that may not be
abbrev pub ChartCreatesTwice : Chart → Place → Type 0
ChartCreatesTwice chart p = IsAmong (chart_barred chart) p
