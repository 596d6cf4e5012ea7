-- The readers of single events are exact.
use Rattle.std.proofs.Common.{ℕ, ◌≡◌, ◌++◌, true, List, [], ◌∷◌, None, refl, codes}
use Rattle.msc_base.specs.declared.label.Kind.{Kind}
use Rattle.msc_base.specs.declared.label.Kind.TheVariants.{Output, Input, OutputLost, InputFound, Action, TimerStart, TimerStop, Timeout, Create}
use Rattle.msc_tree.specs.declared.event.Target.TheVariants.{Nobody, Env, Instance, Gate}
use Rattle.msc_tokens.specs.declared.token.Token.{Token}
use Rattle.token_grammar.specs.Classes.{token_of}
use Rattle.token_grammar.specs.Languages.{Set, among, apart, just, names, seq_at}
use Rattle.token_grammar.specs.Parts.{kept, all_or_none}
use Rattle.token_grammar.specs.Messages.{start_words, stop_words}
use Rattle.token_grammar.proofs.Flats.{rule_by}
use Rattle.token_grammar.proofs.Lists.{apart_none}
use Rattle.token_grammar.proofs.Rules.{Law, Rule, seq_rule, or_rule, as_rule, until_rule}
use Rattle.token_grammar.proofs.Optionals.{none, mapped, optional_rule, behind_rule}
use Rattle.token_grammar.proofs.PartRules.{law_by, name_rule, mark_rule, ending_rule, ends, placed_rule, name_list_rule, item_rule, message_rule}
use Rattle.msc_events.specs.Events.{no_orders, orders, named, address_of, through, to_lost, to_gate, apart_address, address, event_of, output, input, plain, action, timer, creation, act, tagged, label, single, coregion, stop}
use Rattle.msc_events.specs.EventReaders.{orders_at, via_at, to_lost_at, to_gate_at, apart_address_at, address_at, output_at, input_at, action_at, timer_at, creation_at, act_at, label_at, single_at, act_words, single_words, coregion_at, stop_at}
use Rattle.msc_events.specs.declared.event_parts.Orders.{Orders}
use Rattle.msc_events.specs.declared.event_parts.Origin.{Origin}
use Rattle.msc_events.specs.declared.event_parts.Origin.TheVariants.{Chart, Log}

-- what the orders begin with
abbrev pub order_words : Origin → Set
order_words Chart = just (codes "before") ++ (just (codes "after") ++ ends)
order_words Log = ends

orders_rule : (s : Origin) (n : ℕ) → Rule (λ m. orders s) n (order_words s) none (orders_at s)
orders_rule Chart n = as_rule (λ p. record { earlier_than = p.0; later_than = p.1.0 }) none
    (optional_rule all_or_none (behind_rule (just (codes "before")) (codes "before") refl (name_list_rule n))
    (optional_rule all_or_none (behind_rule (just (codes "after")) (codes "after") refl (name_list_rule n)) (ending_rule n) (λ a. refl) refl) (λ a. refl) refl) (λ a. refl)
orders_rule Log n = as_rule (λ t. no_orders) none (ending_rule n) (λ a. refl)

-- no order begins with a name, an opening parenthesis or a comma
names_apart : (s : Origin) → apart names (order_words s) ≡ true
names_apart Chart = refl
names_apart Log = refl

open_apart : (s : Origin) → apart (just (codes "(")) (order_words s) ≡ true
open_apart Chart = refl
open_apart Log = refl

comma_apart : (s : Origin) → apart (just (codes ",")) (just (codes "(") ++ order_words s) ≡ true
comma_apart Chart = refl
comma_apart Log = refl

-- ---- acts

-- what a gate and the orders begin with
abbrev through_words : Origin → Set
through_words Chart = just (codes "via") ++ order_words Chart
through_words Log = order_words Log

ungated : (ts : List Token) → mapped (λ (o : Orders). (None, o)) (orders_at Log ts) ≡ seq_at (via_at Log) (orders_at Log) ts
ungated [] = refl
ungated (t ∷ ts) = refl

through_rule : (s : Origin) (n : ℕ) → Rule (λ m. through s) n (through_words s) none (seq_at (via_at s) (orders_at s))
through_rule Chart n = optional_rule kept (behind_rule (just (codes "via")) (codes "via") refl (name_rule n)) (orders_rule Chart n) (λ a. refl) refl
through_rule Log n =
    rule_by (λ m. through Log) n (order_words Log) none (λ us. mapped (λ (o : Orders). (None, o)) (orders_at Log us)) (seq_at (via_at Log) (orders_at Log)) ungated
    (as_rule (λ o. (None, o)) none (orders_rule Log n) (λ a. refl))

to_lost_rule : (s : Origin) (lost : List ℕ) (lost_kind : Kind) (n : ℕ) → among (just lost) (token_of lost) ≡ true → Rule (λ m. to_lost s lost lost_kind) n (just lost) none (to_lost_at s lost lost_kind)
to_lost_rule s lost lost_kind n is =
    as_rule (λ p. address_of lost_kind (named p.0) p.1) none (behind_rule (just lost) lost is (optional_rule kept (name_rule n) (orders_rule s n) (λ a. apart_none (order_words s)) (names_apart s))) (λ a. refl)

to_gate_rule : (kind : Kind) (n : ℕ) → Rule (λ m. to_gate kind) n (just (codes "reference")) none (to_gate_at kind)
to_gate_rule kind n = as_rule (λ p. address_of kind (Gate p.0 p.1.0) p.1.1) none (behind_rule (just (codes "reference")) (codes "reference") refl
    (seq_rule (name_rule n) (behind_rule (just (codes "via")) (codes "via") refl (seq_rule (name_rule n) (orders_rule Chart n) (λ a. refl))) (λ a. refl))) (λ a. refl)

abbrev apart_words : Origin → List ℕ → Set
apart_words Chart lost = just lost ++ just (codes "reference")
apart_words Log lost = just lost

-- a word for a message that has no other end
record IsLost (lost : List ℕ) : Type 0 where
  is : among (just lost) (token_of lost) ≡ true
  names_free : (s : Origin) → apart names (just (codes "env") ++ apart_words s lost) ≡ true
  env_free : (s : Origin) → apart (just (codes "env")) (apart_words s lost) ≡ true
  gate_free : apart (just lost) (just (codes "reference")) ≡ true

lost_is : IsLost (codes "lost")
lost_is = record { is = refl; names_free = names_free; env_free = env_free; gate_free = refl }
  where
    names_free : (s : Origin) → apart names (just (codes "env") ++ apart_words s (codes "lost")) ≡ true
    names_free Chart = refl
    names_free Log = refl

    env_free : (s : Origin) → apart (just (codes "env")) (apart_words s (codes "lost")) ≡ true
    env_free Chart = refl
    env_free Log = refl

found_is : IsLost (codes "found")
found_is = record { is = refl; names_free = names_free; env_free = env_free; gate_free = refl }
  where
    names_free : (s : Origin) → apart names (just (codes "env") ++ apart_words s (codes "found")) ≡ true
    names_free Chart = refl
    names_free Log = refl

    env_free : (s : Origin) → apart (just (codes "env")) (apart_words s (codes "found")) ≡ true
    env_free Chart = refl
    env_free Log = refl

module _ (lost : List ℕ) (kind lost_kind : Kind) (word : IsLost lost) where
  apart_rule : (s : Origin) (n : ℕ) → Rule (λ m. apart_address s lost kind lost_kind) n (apart_words s lost) none (apart_address_at s lost kind lost_kind)
  apart_rule Chart n = or_rule (to_lost_rule Chart lost lost_kind n word.is) (to_gate_rule kind n) word.gate_free
  apart_rule Log n = to_lost_rule Log lost lost_kind n word.is

  address_rule : (s : Origin) (n : ℕ) → Rule (λ m. address s lost kind lost_kind) n (names ++ (just (codes "env") ++ apart_words s lost)) none (address_at s lost kind lost_kind)
  address_rule s n =
      or_rule (as_rule (λ p. address_of kind (Instance p.0) p.1) none (seq_rule (name_rule n) (orders_rule s n) (λ a. apart_none (order_words s))) (λ a. refl))
      (or_rule (as_rule (λ p. address_of kind (Env p.0) p.1) none (behind_rule (just (codes "env")) (codes "env") refl (through_rule s n)) (λ a. refl))
      (apart_rule s n) (word.env_free s)) (word.names_free s)

output_rule : (s : Origin) (n : ℕ) → Rule (λ m. output s) n (just (codes "out")) none (output_at s)
output_rule s n = as_rule (λ p. event_of p.0 p.1.0 p.1.1) none (placed_rule (just (codes "out")) (codes "out") refl
    (message_rule refl refl (behind_rule (just (codes "to")) (codes "to") refl (address_rule (codes "lost") Output OutputLost lost_is s n)))) (λ a. refl)

input_rule : (s : Origin) (n : ℕ) → Rule (λ m. input s) n (just (codes "in")) none (input_at s)
input_rule s n = as_rule (λ p. event_of p.0 p.1.0 p.1.1) none (placed_rule (just (codes "in")) (codes "in") refl
    (message_rule refl refl (behind_rule (just (codes "from")) (codes "from") refl (address_rule (codes "found") Input InputFound found_is s n)))) (λ a. refl)

action_rule : (s : Origin) (n : ℕ) → Rule (λ m. action s) n (just (codes "action")) none (action_at s)
action_rule s n = as_rule (λ p. event_of p.0 (plain p.1.0) (address_of Action Nobody p.1.1)) none
    (placed_rule (just (codes "action")) (codes "action") refl (seq_rule (item_rule n) (orders_rule s n) (λ a. apart_none (order_words s)))) (λ a. refl)

timer_rule : (s : Origin) (words : Set) (kind : Kind) (word : List ℕ) → among words (token_of word) ≡ true → (n : ℕ) → Rule (λ m. timer s words kind) n words none (timer_at s words kind)
timer_rule s words kind word is n = as_rule (λ p. event_of p.0 p.1.0 (address_of kind Nobody p.1.1)) none (placed_rule words word is (message_rule (open_apart s) (comma_apart s) (orders_rule s n))) (λ a. refl)

creation_rule : (s : Origin) (n : ℕ) → Rule (λ m. creation s) n (just (codes "create")) none (creation_at s)
creation_rule s n = as_rule (λ p. event_of p.0 (plain p.1.0) (address_of Create (Instance p.1.0) p.1.1)) none
    (placed_rule (just (codes "create")) (codes "create") refl (seq_rule (name_rule n) (orders_rule s n) (λ a. apart_none (order_words s)))) (λ a. refl)

pub act_rule : (s : Origin) (n : ℕ) → Rule (λ m. act s) n act_words none (act_at s)
act_rule s n =
    or_rule (output_rule s n) (or_rule (input_rule s n) (or_rule (action_rule s n)
    (or_rule (timer_rule s start_words TimerStart (codes "set") refl n) (or_rule (timer_rule s stop_words TimerStop (codes "reset") refl n)
    (or_rule (timer_rule s (just (codes "timeout")) Timeout (codes "timeout") refl n) (creation_rule s n) refl) refl) refl) refl) refl) refl

-- ---- events

label_rule : (n : ℕ) → Rule (λ m. label) n (just (codes "label")) none label_at
label_rule n = behind_rule (just (codes "label")) (codes "label") refl (as_rule (λ p. p.0) none (seq_rule (name_rule n) (mark_rule (codes ";") refl n) (λ a. refl)) (λ a. refl))

pub single_rule : (n : ℕ) → Rule (λ m. single) n single_words none single_at
single_rule n = as_rule (λ p. tagged p.0 p.1) none (optional_rule kept (label_rule n) (act_rule Chart n) (λ a. refl) refl) (λ a. refl)

pub coregion_rule : (n : ℕ) → Rule (λ m. coregion) n (just (codes "concurrent")) none coregion_at
coregion_rule n = as_rule (λ p. (p.0, p.1.1.0)) none (placed_rule (just (codes "concurrent")) (codes "concurrent") refl
    (seq_rule (ending_rule n) (until_rule (single_rule n) (behind_rule (just (codes "endconcurrent")) (codes "endconcurrent") refl (ending_rule n)) (λ a. refl) refl (λ a. refl)) (λ a. refl))) (λ a. refl)

pub stop_rule : (n : ℕ) → Rule (λ m. stop) n (just (codes "stop")) none stop_at
stop_rule n = as_rule (λ p. p.0) none (placed_rule (just (codes "stop")) (codes "stop") refl (ending_rule n)) (λ a. refl)

-- ---- their laws

pub single_law : (n : ℕ) → Law (λ m. single) n single_words none
single_law = law_by single_rule

pub coregion_law : (n : ℕ) → Law (λ m. coregion) n (just (codes "concurrent")) none
coregion_law = law_by coregion_rule

pub stop_law : (n : ℕ) → Law (λ m. stop) n (just (codes "stop")) none
stop_law = law_by stop_rule
