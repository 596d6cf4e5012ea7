-- Readers of the productions of single events.
use Rattle.std.specs.Prelude.{ℕ, List, ◌++◌, Option, None, Ok, length, codes}
use Rattle.msc_base.specs.declared.label.Kind.{Kind}
use Rattle.msc_base.specs.declared.label.Kind.TheVariants.{Output, Input, OutputLost, InputFound, Action, TimerStart, TimerStop, Timeout, Create}
use Rattle.msc_base.specs.declared.place.Place.{Place}
use Rattle.msc_tokens.specs.declared.token.Token.{Token}
use Rattle.msc_tree.specs.declared.event.RawEvent.{RawEvent}
use Rattle.msc_tree.specs.declared.event.Target.TheVariants.{Nobody, Env, Instance, Gate}
use Rattle.token_grammar.specs.Languages.{Set, Read, just, names, each_at, seq_at, either_at, map_at, until_at, optional_at, behind_at}
use Rattle.token_grammar.specs.Parts.{kept, all_or_none}
use Rattle.token_grammar.specs.Messages.{Message, start_words, stop_words}
use Rattle.token_grammar.specs.PartReaders.{name_at, mark_at, placed_at, ending_at, more_at, name_list_at, item_at, message_at}
use Rattle.msc_events.specs.Events.{no_orders, named, address_of, event_of, plain, tagged}
use Rattle.msc_events.specs.declared.event_parts.Orders.{Orders}
use Rattle.msc_events.specs.declared.event_parts.Address.{Address}
use Rattle.msc_events.specs.declared.event_parts.Origin.{Origin}
use Rattle.msc_events.specs.declared.event_parts.Origin.TheVariants.{Chart, Log}

-- names behind this word, where it stands
abbrev pub names_behind_at : List ℕ → List Token → Read (List (List ℕ))
names_behind_at text = optional_at (just text) all_or_none (behind_at (just text) name_list_at)

abbrev pub own_orders_at : List Token → Read Orders
own_orders_at = map_at (λ p. record { earlier_than = p.0; later_than = p.1.0 }) (seq_at (names_behind_at (codes "before")) (seq_at (names_behind_at (codes "after")) ending_at))

abbrev pub no_orders_at : List Token → Read Orders
no_orders_at = map_at (λ t. no_orders) ending_at

abbrev pub orders_at : Origin → List Token → Read Orders
orders_at Chart = own_orders_at
orders_at Log = no_orders_at

-- ---- acts

abbrev pub to_name_at : Origin → Kind → List Token → Read Address
to_name_at setting kind = map_at (λ p. address_of kind (Instance p.0) p.1) (seq_at name_at (orders_at setting))

-- a gate behind "via", where it is named
abbrev pub some_gate_at : List Token → Read (Option (List ℕ))
some_gate_at = optional_at (just (codes "via")) kept (behind_at (just (codes "via")) name_at)

abbrev pub no_gate_at : List Token → Read (Option (List ℕ))
no_gate_at ts = Ok (None, ts)

abbrev pub via_at : Origin → List Token → Read (Option (List ℕ))
via_at Chart = some_gate_at
via_at Log = no_gate_at

abbrev pub to_env_at : Origin → Kind → List Token → Read Address
to_env_at setting kind = map_at (λ p. address_of kind (Env p.0) p.1) (behind_at (just (codes "env")) (seq_at (via_at setting) (orders_at setting)))

-- a name, where there is one
abbrev pub some_name_at : List Token → Read (Option (List ℕ))
some_name_at = optional_at names kept name_at

abbrev pub to_lost_at : Origin → List ℕ → Kind → List Token → Read Address
to_lost_at setting lost kind = map_at (λ p. address_of kind (named p.0) p.1) (behind_at (just lost) (seq_at some_name_at (orders_at setting)))

abbrev pub to_gate_at : Kind → List Token → Read Address
to_gate_at kind = map_at (λ p. address_of kind (Gate p.0 p.1.0) p.1.1) (behind_at (just (codes "reference")) (seq_at name_at (behind_at (just (codes "via")) (seq_at name_at (orders_at Chart)))))

abbrev pub lost_or_gate_at : List ℕ → Kind → Kind → List Token → Read Address
lost_or_gate_at lost kind lost_kind = either_at (just lost) (to_lost_at Chart lost lost_kind) (to_gate_at kind)

-- another end that is no instance and not the environment
abbrev pub apart_address_at : Origin → List ℕ → Kind → Kind → List Token → Read Address
apart_address_at Chart lost kind lost_kind = lost_or_gate_at lost kind lost_kind
apart_address_at Log lost kind lost_kind = to_lost_at Log lost lost_kind

abbrev pub address_at : Origin → List ℕ → Kind → Kind → List Token → Read Address
address_at setting lost kind lost_kind =
    either_at names (to_name_at setting kind) (either_at (just (codes "env")) (to_env_at setting kind) (apart_address_at setting lost kind lost_kind))

abbrev pub exchange_at : Origin → List ℕ → List ℕ → List ℕ → Kind → Kind → List Token → Read RawEvent
exchange_at setting way toward lost kind lost_kind =
    map_at (λ p. event_of p.0 p.1.0 p.1.1) (placed_at (just way) (seq_at message_at (behind_at (just toward) (address_at setting lost kind lost_kind))))

abbrev pub output_at : Origin → List Token → Read RawEvent
output_at setting = exchange_at setting (codes "out") (codes "to") (codes "lost") Output OutputLost

abbrev pub input_at : Origin → List Token → Read RawEvent
input_at setting = exchange_at setting (codes "in") (codes "from") (codes "found") Input InputFound

abbrev pub action_at : Origin → List Token → Read RawEvent
action_at setting = map_at (λ p. event_of p.0 (plain p.1.0) (address_of Action Nobody p.1.1)) (placed_at (just (codes "action")) (seq_at item_at (orders_at setting)))

-- a timer's name and list, and its orders
abbrev pub timing_at : Origin → List Token → Read (Message × Orders)
timing_at setting = seq_at message_at (orders_at setting)

abbrev pub timer_at : Origin → Set → Kind → List Token → Read RawEvent
timer_at setting words kind = map_at (λ p. event_of p.0 p.1.0 (address_of kind Nobody p.1.1)) (placed_at words (timing_at setting))

abbrev pub creation_at : Origin → List Token → Read RawEvent
creation_at setting = map_at (λ p. event_of p.0 (plain p.1.0) (address_of Create (Instance p.1.0) p.1.1)) (placed_at (just (codes "create")) (seq_at name_at (orders_at setting)))

-- a timer's event, or a creation
abbrev pub timers_at : Origin → List Token → Read RawEvent
timers_at setting = either_at start_words (timer_at setting start_words TimerStart) (either_at stop_words (timer_at setting stop_words TimerStop)
    (either_at (just (codes "timeout")) (timer_at setting (just (codes "timeout")) Timeout) (creation_at setting)))

abbrev pub act_at : Origin → List Token → Read RawEvent
act_at setting = either_at (just (codes "out")) (output_at setting) (either_at (just (codes "in")) (input_at setting) (either_at (just (codes "action")) (action_at setting) (timers_at setting)))

-- ---- events

abbrev pub label_at : List Token → Read (List ℕ)
label_at = behind_at (just (codes "label")) (map_at (λ p. p.0) (seq_at name_at (mark_at (codes ";"))))

abbrev pub some_label_at : List Token → Read (Option (List ℕ))
some_label_at = optional_at (just (codes "label")) kept label_at

abbrev pub single_at : List Token → Read RawEvent
single_at = map_at (λ p. tagged p.0 p.1) (seq_at some_label_at (act_at Chart))

-- what an act begins with, and an event
abbrev pub timing_words : Set
timing_words = start_words ++ (stop_words ++ (just (codes "timeout") ++ just (codes "create")))

abbrev pub act_words : Set
act_words = just (codes "out") ++ (just (codes "in") ++ (just (codes "action") ++ timing_words))

abbrev pub single_words : Set
single_words = just (codes "label") ++ act_words

abbrev pub more_singles_at : List RawEvent → ℕ → List Token → Read (List RawEvent)
more_singles_at = more_at single_words single_at

abbrev pub singles_at : List Token → Read (List RawEvent)
singles_at ts = each_at single_words single_at (length ts) ts

abbrev pub coregion_end_at : List Token → Read (Unit {0})
coregion_end_at = behind_at (just (codes "endconcurrent")) ending_at

abbrev pub coregion_at : List Token → Read (Place × List RawEvent)
coregion_at = map_at (λ p. (p.0, p.1.1.0)) (placed_at (just (codes "concurrent")) (seq_at ending_at (until_at single_words single_at coregion_end_at)))

abbrev pub stop_at : List Token → Read Place
stop_at = map_at (λ p. p.0) (placed_at (just (codes "stop")) ending_at)
