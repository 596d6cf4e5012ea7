-- How events are written, in a chart and on a line of a log, and the coregions of a chart and the stop of an instance
-- (Z.120, clauses 4.3, 4.5, 4.6, 4.8 to 4.11 and 7.1). A log has neither labels of events nor orders nor gates.
-- A production that ends with a part that may be missing takes what stands behind it: `[ x ] y` is `optional`.
use Rattle.std.specs.Prelude.{ℕ, List, [], Option, Some, None, codes}
use Rattle.msc_base.specs.declared.label.Kind.{Kind}
use Rattle.msc_base.specs.declared.label.Kind.TheVariants.{Output, Input, OutputLost, InputFound, Action, TimerStart, TimerStop, Timeout, Create}
use Rattle.msc_base.specs.declared.place.Place.{Place}
use Rattle.msc_tree.specs.declared.event.RawEvent.{RawEvent}
use Rattle.msc_tree.specs.declared.event.Target.{Target}
use Rattle.msc_tree.specs.declared.event.Target.TheVariants.{Nobody, Env, Instance, Gate}
use Rattle.msc_tree.specs.Orders.{with_name}
use Rattle.token_grammar.specs.Languages.{Set, just}
use Rattle.token_grammar.specs.Grammars.{Grammar, seq, or, read_as, until, optional, behind}
use Rattle.token_grammar.specs.Parts.{name, mark, ending, kept, all_or_none, placed, name_list}
use Rattle.token_grammar.specs.Messages.{Message, item, message, start_words, stop_words}
use Rattle.msc_events.specs.declared.event_parts.Orders.{Orders}
use Rattle.msc_events.specs.declared.event_parts.Address.{Address}
use Rattle.msc_events.specs.declared.event_parts.Origin.{Origin}
use Rattle.msc_events.specs.declared.event_parts.Origin.TheVariants.{Chart, Log}

abbrev pub no_orders : Orders
no_orders = record { earlier_than = []; later_than = [] }

-- in a chart [ "before" names ] [ "after" names ] end, in a log the end alone
abbrev pub orders : Origin → Grammar Orders
orders Chart = read_as (λ p. record { earlier_than = p.0; later_than = p.1.0 })
    (optional all_or_none (behind (just (codes "before")) name_list) (optional all_or_none (behind (just (codes "after")) name_list) ending))
orders Log = read_as (λ t. no_orders) ending

-- ---- acts, each with what stands behind it

abbrev pub named : Option (List ℕ) → Target
named None = Nobody
named (Some instance_name) = Instance instance_name

abbrev pub address_of : Kind → Target → Orders → Address
address_of kind target orders = record { kind = kind; target = target; orders = orders }

-- in a chart [ "via" name ], in a log nothing, and the orders
abbrev pub through : Origin → Grammar (Option (List ℕ) × Orders)
through Chart = optional kept (behind (just (codes "via")) name) (orders Chart)
through Log = read_as (λ o. (None, o)) (orders Log)

abbrev pub to_lost : Origin → List ℕ → Kind → Grammar Address
to_lost setting lost lost_kind = read_as (λ p. address_of lost_kind (named p.0) p.1) (behind (just lost) (optional kept name (orders setting)))

abbrev pub to_gate : Kind → Grammar Address
to_gate kind = read_as (λ p. address_of kind (Gate p.0 p.1.0) p.1.1) (behind (just (codes "reference")) (seq name (behind (just (codes "via")) (seq name (orders Chart)))))

-- "lost" [ name ], and in a chart also "reference" name "via" name
abbrev pub apart_address : Origin → List ℕ → Kind → Kind → Grammar Address
apart_address Chart lost kind lost_kind = or (to_lost Chart lost lost_kind) (to_gate kind)
apart_address Log lost kind lost_kind = to_lost Log lost lost_kind

-- name | "env" [ "via" name ] | "lost" [ name ] | "reference" name "via" name; an input has "found"
abbrev pub address : Origin → List ℕ → Kind → Kind → Grammar Address
address setting lost kind lost_kind =
    or (read_as (λ p. address_of kind (Instance p.0) p.1) (seq name (orders setting)))
    (or (read_as (λ p. address_of kind (Env p.0) p.1) (behind (just (codes "env")) (through setting)))
    (apart_address setting lost kind lost_kind))

-- the event at a place, without its label
abbrev pub event_of : Place → Message → Address → RawEvent
event_of place m a = record {
  kind = a.kind;
  text = m.0;
  parameters = m.2;
  pairing = m.1;
  target = a.target;
  order = record { event_name = None; earlier_than = a.orders.earlier_than; later_than = a.orders.later_than };
  place = place;
}

-- "out" message "to" address, and "in" message "from" address
abbrev pub exchange : Origin → List ℕ → List ℕ → List ℕ → Kind → Kind → Grammar RawEvent
exchange setting way toward lost kind lost_kind =
    read_as (λ p. event_of p.0 p.1.0 p.1.1) (placed (just way) (message (behind (just toward) (address setting lost kind lost_kind))))

abbrev pub output : Origin → Grammar RawEvent
output setting = exchange setting (codes "out") (codes "to") (codes "lost") Output OutputLost

abbrev pub input : Origin → Grammar RawEvent
input setting = exchange setting (codes "in") (codes "from") (codes "found") Input InputFound

-- a text alone
abbrev pub plain : List ℕ → Message
plain text = (text, None, None)

-- "action" ( string | name )
abbrev pub action : Origin → Grammar RawEvent
action setting = read_as (λ p. event_of p.0 (plain p.1.0) (address_of Action Nobody p.1.1)) (placed (just (codes "action")) (seq item (orders setting)))

-- a timer's word and a message
abbrev pub timer : Origin → Set → Kind → Grammar RawEvent
timer setting words kind = read_as (λ p. event_of p.0 p.1.0 (address_of kind Nobody p.1.1)) (placed words (message (orders setting)))

-- "create" name: the text and the other end are the child
abbrev pub creation : Origin → Grammar RawEvent
creation setting = read_as (λ p. event_of p.0 (plain p.1.0) (address_of Create (Instance p.1.0) p.1.1)) (placed (just (codes "create")) (seq name (orders setting)))

abbrev pub act : Origin → Grammar RawEvent
act setting = or (output setting) (or (input setting) (or (action setting) (or (timer setting start_words TimerStart)
    (or (timer setting stop_words TimerStop) (or (timer setting (just (codes "timeout")) Timeout) (creation setting))))))

-- ---- events

abbrev pub tagged : Option (List ℕ) → RawEvent → RawEvent
tagged event_name e = record {
  kind = e.kind;
  text = e.text;
  parameters = e.parameters;
  pairing = e.pairing;
  target = e.target;
  order = with_name event_name e.order;
  place = e.place;
}

-- "label" name ";"
abbrev pub label : Grammar (List ℕ)
label = behind (just (codes "label")) (read_as (λ p. p.0) (seq name (mark (codes ";"))))

-- single = [ "label" name ";" ] act [ "before" names ] [ "after" names ] end; its place is that of its act
abbrev pub single : Grammar RawEvent
single = read_as (λ p. tagged p.0 p.1) (optional kept label (act Chart))

-- coregion = "concurrent" end { single } "endconcurrent" end, with its place
abbrev pub coregion : Grammar (Place × List RawEvent)
coregion = read_as (λ p. (p.0, p.1.1.0)) (placed (just (codes "concurrent")) (seq ending (until single (behind (just (codes "endconcurrent")) ending))))

-- "stop" end, with its place
abbrev pub stop : Grammar Place
stop = read_as (λ p. p.0) (placed (just (codes "stop")) ending)
