-- What an event that is read creates is an instance; and so it is with the events of a coregion.
use Rattle.std.proofs.Common.{◌≡◌, ℕ, true, List, [], ◌∷◌, Option, Some, None, codes, refl}
use Rattle.chart_text.proofs.StandingLaws.{both}
use Rattle.chart_text.specs.WellFormed.{are_well_formed_events, creates_instance, is_well_formed_event}
use Rattle.msc_base.specs.declared.label.Kind.{Kind}
use Rattle.msc_base.specs.declared.label.Kind.TheVariants.{Output, Input, OutputLost, InputFound, Action, TimerStart, TimerStop, Timeout, Create}
use Rattle.msc_document.proofs.Giving.{Gives, Each, anything, weaker, read_gives, or_gives, seq_gives, behind_gives, placed_gives, until_gives}
use Rattle.msc_events.specs.Events.{act, action, address, address_of, coregion, creation, event_of, exchange, input, named, output, plain, single, tagged, timer}
use Rattle.msc_events.specs.declared.event_parts.Address.{Address}
use Rattle.msc_events.specs.declared.event_parts.Origin.TheVariants.{Chart}
use Rattle.msc_tree.specs.declared.event.RawEvent.{RawEvent}
use Rattle.msc_tree.specs.declared.event.Target.{Target}
use Rattle.msc_tree.specs.declared.event.Target.TheVariants.{Nobody, Env, Instance, Gate}
use Rattle.token_grammar.specs.Grammars.{Grammar, behind, optional}
use Rattle.token_grammar.specs.Languages.{Set, just}
use Rattle.token_grammar.specs.Messages.{message, start_words, stop_words}
use Rattle.token_grammar.specs.Parts.{ending, kept, name}

-- ---- what stands behind parts that may be missing

optional_gives : {A B V : Type 0} {R : Grammar A} {S : Grammar B} {P : B → Type 0} (v : Option A → V) → Gives S P → Gives (optional v R S) (λ p. P p.1)
optional_gives {R = R} v s =
    read_gives (λ p. (v p.0, p.1)) (or_gives (read_gives (λ p. (Some p.0, p.1)) (weaker (seq_gives (anything R) s) (λ p h. h.1))) (read_gives (λ b. (None, b)) s))

message_gives : {A : Type 0} {R : Grammar A} {P : A → Type 0} → Gives R P → Gives (message R) (λ p. P p.1)
message_gives r = read_gives (λ p. ((p.0, p.1.0, p.1.1.0), p.1.1.1)) (weaker (seq_gives (anything name) (optional_gives kept (optional_gives kept r))) (λ p h. h.1))

-- ---- acts

abbrev IsFormedEvent : RawEvent → Type 0
IsFormedEvent e = is_well_formed_event e ≡ true

abbrev CreatesInstance : Address → Type 0
CreatesInstance a = creates_instance a.kind a.target ≡ true

module _ (kind lost_kind : Kind) (some : (t : Target) → creates_instance kind t ≡ true) (apart : (t : Target) → creates_instance lost_kind t ≡ true) where
  address_formed : (lost : List ℕ) → Gives (address Chart lost kind lost_kind) CreatesInstance
  address_formed lost =
      or_gives (read_gives (λ p. address_of kind (Instance p.0) p.1) (weaker (anything _) (λ p h. some (Instance p.0))))
      (or_gives (read_gives (λ p. address_of kind (Env p.0) p.1) (weaker (anything _) (λ p h. some (Env p.0))))
      (or_gives (read_gives (λ p. address_of lost_kind (named p.0) p.1) (weaker (anything _) (λ p h. apart (named p.0))))
      (read_gives (λ p. address_of kind (Gate p.0 p.1.0) p.1.1) (weaker (anything _) (λ p h. some (Gate p.0 p.1.0))))))

  exchange_formed : (way toward lost : List ℕ) → Gives (exchange Chart way toward lost kind lost_kind) IsFormedEvent
  exchange_formed way toward lost = read_gives (λ p. event_of p.0 p.1.0 p.1.1) (weaker (placed_gives (just way) (message_gives (behind_gives (just toward) (address_formed lost)))) (λ p h. h))

output_formed : Gives (output Chart) IsFormedEvent
output_formed = exchange_formed Output OutputLost (λ t. refl) (λ t. refl) (codes "out") (codes "to") (codes "lost")

input_formed : Gives (input Chart) IsFormedEvent
input_formed = exchange_formed Input InputFound (λ t. refl) (λ t. refl) (codes "in") (codes "from") (codes "found")

action_formed : Gives (action Chart) IsFormedEvent
action_formed = read_gives (λ p. event_of p.0 (plain p.1.0) (address_of Action Nobody p.1.1)) (weaker (anything _) (λ p h. refl))

timer_formed : (words : Set) (kind : Kind) → creates_instance kind Nobody ≡ true → Gives (timer Chart words kind) IsFormedEvent
timer_formed words kind is = read_gives (λ p. event_of p.0 p.1.0 (address_of kind Nobody p.1.1)) (weaker (anything _) (λ p h. is))

creation_formed : Gives (creation Chart) IsFormedEvent
creation_formed = read_gives (λ p. event_of p.0 (plain p.1.0) (address_of Create (Instance p.1.0) p.1.1)) (weaker (anything _) (λ p h. refl))

act_formed : Gives (act Chart) IsFormedEvent
act_formed = or_gives output_formed (or_gives input_formed (or_gives action_formed (or_gives (timer_formed start_words TimerStart refl)
    (or_gives (timer_formed stop_words TimerStop refl) (or_gives (timer_formed (just (codes "timeout")) Timeout refl) creation_formed)))))

-- ---- events

pub single_formed : Gives single (λ e. is_well_formed_event e ≡ true)
single_formed = read_gives (λ p. tagged p.0 p.1) (weaker (optional_gives kept act_formed) (λ p h. h))

all_formed : (es : List RawEvent) → Each IsFormedEvent es → are_well_formed_events es ≡ true
all_formed [] h = refl
all_formed (e ∷ es) h = both (is_well_formed_event e) (are_well_formed_events es) h.0 (all_formed es h.1)

pub coregion_formed : Gives coregion (λ p. are_well_formed_events p.1 ≡ true)
coregion_formed = read_gives (λ p. (p.0, p.1.1.0)) (weaker (placed_gives (just (codes "concurrent")) (seq_gives (anything ending) (until_gives (behind (just (codes "endconcurrent")) ending) single_formed)))
    (λ p h. all_formed p.1.1.0 h.1))
