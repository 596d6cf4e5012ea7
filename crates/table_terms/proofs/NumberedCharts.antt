-- The events of a chart's expansion, by the numbers of its instances and labels, are those by its names and labels; and each can be named.
use Rattle.label_table.specs.Labels.{label_number}
use Rattle.std.specs.Prelude.{ℕ, ◌<◌, Bool, true, false, List, [], Option, Some, None, length, nat_lt, option_map}
use Rattle.std.specs.List.{slice_get}
use Rattle.std.specs.Option.{unwrap_or}
use Rattle.std.proofs.Common.{◌≡◌, ◌∙◌, refl, ap}
use Rattle.std.proofs.Math.Path.{fun_ext}
use Rattle.msc_base.specs.declared.label.Label.{Label}
use Rattle.msc_base.specs.declared.limits.TheConstants.Limits.{EXPANDED_NESTING}
use Rattle.msc_base.specs.Orders.{Among}
use Rattle.chart_term.specs.Terms.{TermEvent}
use Rattle.msc_meaning.specs.Tables.{Table}
use Rattle.expansion_tree.specs.Expansions.{events_in, map_events}
use Rattle.expansion_tree.specs.declared.tree.ExpandedEvent.{ExpandedEvent}
use Rattle.expanded_charts.specs.Expanding.{NumberedEvent}
use Rattle.gate_ends.specs.FoundEnds.{table_ends}
use Rattle.expanded_charts.specs.Numbering.{at_instances, at_two, event_by, instance_number, number_of_label}
use Rattle.expanded_charts.specs.declared.numbering.Numbering.{Numbering}
use Rattle.expanded_terms.specs.NamedEvents as by_names
use Rattle.expanded_terms.specs.NamedEvents.{IsNameable, event_at, event_at_two, second_number}
use Rattle.expanded_terms.proofs.RankedChartTerms.{numbered_event, numbered_expansion}
use Rattle.table_terms.specs.TableTerms.{chart_expansion, chart_numbering, numbered_chart}
use Rattle.table_terms.proofs.Numbered.{AreNamedOnce, Has, events_once, have_events, label_found, name_found}

-- ---- events by a numbering are events by its names and labels

abbrev as_expanded : TermEvent → ExpandedEvent
as_expanded d = record { number = d.number; at = d.at; also = d.also; label = d.label }

two_same : (b : Bool) (n l i j : ℕ) → at_two b n l i j ≡ as_expanded (event_at_two b n l i j)
two_same true n l i j = refl
two_same false n l i j = refl

at_same : (s : Numbering) (n l i : ℕ) (o : Option (List ℕ)) → at_instances n l i (option_map (instance_number s) o) ≡ as_expanded (event_at n l i (second_number s.names s.labels o))
at_same s n l i None = refl
at_same s n l i (Some j) = two_same (nat_lt (instance_number s j) i) n l i (instance_number s j)

pub event_same : (s : Numbering) (e : NumberedEvent) → event_by s e ≡ numbered_event s.names s.labels e
event_same s e = at_same s e.number (number_of_label s e.happening.label) (instance_number s e.happening.label.at) e.happening.also

pub chart_same : (table : Table) (name : List ℕ) → numbered_chart table name ≡ numbered_expansion (chart_numbering table name).names (chart_numbering table name).labels table (table_ends table) EXPANDED_NESTING name
chart_same table name = ap (λ (f : NumberedEvent → ExpandedEvent). map_events f (chart_expansion table name)) (fun_ext (event_same (chart_numbering table name)))

two_kept : (b : Bool) (n l i j : ℕ) → (event_at_two b n l i j).number ≡ n
two_kept true n l i j = refl
two_kept false n l i j = refl

at_kept : (n l i : ℕ) (o : Option ℕ) → (event_at n l i o).number ≡ n
at_kept n l i None = refl
at_kept n l i (Some j) = two_kept (nat_lt j i) n l i j

pub number_kept : (names : List (List ℕ)) (labels : List Label) (e : NumberedEvent) → (numbered_event names labels e).number ≡ e.number
number_kept names labels e = at_kept e.number (by_names.number_of_label names labels e.happening.label) (by_names.name_number names labels e.happening.label.at) (second_number names labels e.happening.also)

-- ---- a numbering names its own events

named_by : (s : Numbering) (e : NumberedEvent) → Has s e → IsNameable s.names s.labels e.happening
named_by s e h = record {
  label = label (label_found s.labels e.happening.label h.label);
  at = name e.happening.label.at h.at;
  also = λ i q. name i (h.also i q);
}
  where
    label : (k : ℕ) × (label_number s.labels e.happening.label ≡ Some k) × (slice_get s.labels k ≡ Some e.happening.label) × (k < length s.labels) → slice_get s.labels (number_of_label s e.happening.label) ≡ Some e.happening.label
    label (k, a, b, c) = ap (λ (o : Option ℕ). slice_get s.labels (unwrap_or o 0)) a ∙ b

    name : (i : List ℕ) → Among i s.names → slice_get s.names (instance_number s i) ≡ Some i
    name i j = let (k, a, b, c) = name_found s.names i j in ap (λ (o : Option ℕ). slice_get s.names (unwrap_or o 0)) a ∙ b

pub chart_nameable : (table : Table) (name : List ℕ) (e : NumberedEvent) → Among e (events_in (chart_expansion table name)) → IsNameable (chart_numbering table name).names (chart_numbering table name).labels e.happening
chart_nameable table name e i = named_by (chart_numbering table name) e (have_events (events_in (chart_expansion table name)) (record { names = []; labels = [] }) e i)

pub named_once : (table : Table) (name : List ℕ) → AreNamedOnce (chart_numbering table name)
named_once table name = events_once (events_in (chart_expansion table name)) (record { names = []; labels = [] }) (record { names = tt; labels = tt })

pub chart_has : (table : Table) (name : List ℕ) (e : NumberedEvent) → Among e (events_in (chart_expansion table name)) → Has (chart_numbering table name) e
chart_has table name e i = have_events (events_in (chart_expansion table name)) (record { names = []; labels = [] }) e i
