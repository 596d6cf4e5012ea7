-- Where a creation or a stop may not stand: inside an operand, and a creation in a coregion (Z.120, clauses 4.10 and 4.11).
use Rattle.std.specs.Prelude.{◌&&◌, ℕ, Bool, true, false, not, List, [], nat_eq}
use Rattle.std.specs.List.{flat_map}
use Rattle.chart_text.specs.Gathering.{place_if}
use Rattle.chart_text.specs.Texts.{Passage, a_head, a_statement, an_item, an_operand, chart_text}
use Rattle.msc_base.specs.Lists.{IsAmong}
use Rattle.msc_base.specs.declared.label.Kind.{Kind}
use Rattle.msc_base.specs.declared.label.Kind.TheVariants.{Create}
use Rattle.msc_base.specs.declared.place.Place.{Place}
use Rattle.msc_tree.specs.declared.event.RawEvent.{RawEvent}
use Rattle.msc_tree.specs.Charts.{Chart}
use Rattle.msc_tree.specs.Statements.{Form, Single, Coregion, Condition, Inline, Refer, Stop}

abbrev pub is_creation : Kind → Bool
is_creation Create = true
is_creation _ = false

-- an event, where it is a creation, and none may stand there
abbrev pub misplaced_event : Bool → RawEvent → List Place
misplaced_event barred event = place_if (is_creation event.kind && barred) event.place

-- the events of a coregion
abbrev pub misplaced_events : List RawEvent → List Place
misplaced_events events = flat_map (misplaced_event true) events

-- an item at that depth, by itself
abbrev pub misplaced_item : ℕ → Place → Form → List Place
misplaced_item depth place (Single event) = misplaced_event (not (nat_eq depth 0)) event
misplaced_item depth place (Coregion events) = misplaced_events events
misplaced_item depth place (Condition names shared) = []
misplaced_item depth place (Inline head held) = []
misplaced_item depth place (Refer reference) = []
misplaced_item depth place Stop = place_if (not (nat_eq depth 0)) place

abbrev pub misplaced : Passage → List Place
misplaced (a_head decl) = []
misplaced (a_statement depth scope x) = []
misplaced (an_item s place form) = misplaced_item s.depth place form
misplaced (an_operand s x) = []

abbrev pub chart_misplaced : Chart → List Place
chart_misplaced chart = flat_map misplaced (chart_text chart)

-- at that place of the chart a creation or a stop stands that may not
abbrev pub ChartPlacesCreation : Chart → Place → Type 0
ChartPlacesCreation chart p = IsAmong (chart_misplaced chart) p
