-- The bytes of a log's event decide what it says, and nothing in it opens a level.
use Rattle.std.proofs.Common.{ℕ, ◌≡◌, ◌∙◌, ◌++◌, List, [], ◌∷◌, refl, sym, ap, inl, inr, Option, None, codes}
use Rattle.msc_base.specs.declared.label.Label.{Label}
use Rattle.msc_base.specs.declared.label.Kind.{Kind}
use Rattle.msc_base.specs.declared.label.Kind.TheVariants.{Output, Input, OutputLost, InputFound, Action, TimerStart, TimerStop, Timeout, Create}
use Rattle.msc_base.specs.declared.label.Far.{Far}
use Rattle.msc_base.specs.declared.place.Place.{Place}
use Rattle.msc_tokens.specs.declared.token.Token.{Token}
use Rattle.msc_tree.specs.Labels.{list_text, far_of, label_of}
use Rattle.msc_tree.specs.declared.event.RawEvent.{RawEvent}
use Rattle.msc_tree.specs.declared.event.Target.TheVariants.{Nobody, Env, Instance}
use Rattle.token_grammar.specs.Classes.{string}
use Rattle.token_grammar.specs.Languages.{Set, just, names, names_or_strings, texts}
use Rattle.token_grammar.specs.Grammars.{Grammar, seq, or, read_as, behind}
use Rattle.token_grammar.specs.Parts.{name, dropped, kept, all_or_none, all_of, placed, ending}
use Rattle.token_grammar.specs.Messages.{Message, parameters, message, start_words, stop_words}
use Rattle.token_grammar.proofs.Texts.{Textual, bytes_textual, behind_textual, seq_textual, read_textual, or_textual, chain_textual, tail_textual, optional_textual}
use Rattle.token_grammar.proofs.Shallow.{Shallow, bytes_shallow, behind_shallow, seq_shallow, read_shallow, or_shallow, chain_shallow, tail_shallow, optional_shallow}
use Rattle.msc_events.specs.Events.{no_orders, orders, named, address_of, address, event_of, exchange, plain, action, timer, creation, act}
use Rattle.msc_events.specs.LogEvents.{event, plain_message}
use Rattle.msc_events.specs.declared.event_parts.Orders.{Orders}
use Rattle.msc_events.specs.declared.event_parts.Address.{Address}
use Rattle.msc_events.specs.declared.event_parts.Origin.TheVariants.{Log}

-- ---- the bytes decide

ending_textual : Textual ending
ending_textual = read_textual (λ p. p.0) (optional_textual dropped (behind_textual (just (codes "comment")) (bytes_textual (string ∷ []))) (bytes_textual (just (codes ";"))))

orders_textual : Textual (orders Log)
orders_textual = read_textual (λ t. no_orders) ending_textual

parameters_textual : Textual parameters
parameters_textual = behind_textual (just (codes "(")) (read_textual (λ p. p.0) (optional_textual all_or_none
    (read_textual all_of (chain_textual (bytes_textual names_or_strings) (behind_textual (just (codes ",")) (bytes_textual names_or_strings)))) (bytes_textual (just (codes ")")))))

message_textual : {A : Type 0} {S : Grammar A} → Textual S → Textual (message S)
message_textual {A = A} s = read_textual (λ (p : List ℕ × (Option (List ℕ) × (Option (List (List ℕ)) × A))). ((p.0, p.1.0, p.1.1.0), p.1.1.1))
    (seq_textual (bytes_textual names) (optional_textual kept (behind_textual (just (codes ",")) (bytes_textual names)) (optional_textual kept parameters_textual s)))

address_textual : (lost : List ℕ) (kind lost_kind : Kind) → Textual (address Log lost kind lost_kind)
address_textual lost kind lost_kind =
    or_textual (read_textual (λ p. address_of kind (Instance p.0) p.1) (seq_textual (bytes_textual names) orders_textual))
    (or_textual (read_textual (λ p. address_of kind (Env p.0) p.1) (behind_textual (just (codes "env")) (read_textual (λ o. (None, o)) orders_textual)))
    (read_textual (λ p. address_of lost_kind (named p.0) p.1) (behind_textual (just lost) (optional_textual kept (bytes_textual names) orders_textual))))

-- ---- an act holds its place, but what it says doesn't

abbrev Said : Type 0
Said = Kind × List ℕ × Far

abbrev said : RawEvent → Said
said e = (e.kind, e.text ++ list_text e.parameters, far_of e.target)

abbrev said_at : List ℕ → Said → Label
said_at at s = record { at = at; kind = s.0; text = s.1; far = s.2 }

module _ {A V : Type 0} (words : Set) (f : RawEvent → V) (g : Place × A → RawEvent) (h : A → V) (same : (p : Place × A) → f (g p) ≡ h p.1) where
  placed_textual : {R : Grammar A} → Textual R → Textual (read_as f (read_as g (placed words R)))
  placed_textual {R = R} r = record { keeps = keeps }
    where
      keeps : (x y : List Token) (v : V) → texts x ≡ texts y → (read_as f (read_as g (placed words R))).reads x v → (read_as f (read_as g (placed words R))).reads y v
      keeps x y v e (a, (p, (q, k, is_p), is_a), is_v) =
          let b : (behind words R).reads y q.1 = (behind_textual words r).keeps x y q.1 e (q, k, refl) in
          moved b
        where
          moved : (behind words R).reads y q.1 → (read_as f (read_as g (placed words R))).reads y v
          moved (u, m, is) = (
            g (u.0.place, u.1),
            ((u.0.place, u.1), (u, m, refl), refl),
            is_v ∙ ap f is_a ∙ same p ∙ ap (λ (w : Place × A). h w.1) is_p ∙ ap h is ∙ sym (same (u.0.place, u.1)),
          )

either_textual : {A V : Type 0} {R S : Grammar A} (f : A → V) → Textual (read_as f R) → Textual (read_as f S) → Textual (read_as f (or R S))
either_textual {A = A} {V = V} {R = R} {S = S} f r s = record { keeps = keeps }
  where
    left : (y : List Token) (v : V) → (read_as f R).reads y v → (read_as f (or R S)).reads y v
    left y v (a, k, is) = (a, inl k, is)

    right : (y : List Token) (v : V) → (read_as f S).reads y v → (read_as f (or R S)).reads y v
    right y v (a, k, is) = (a, inr k, is)

    keeps : (x y : List Token) (v : V) → texts x ≡ texts y → (read_as f (or R S)).reads x v → (read_as f (or R S)).reads y v
    keeps x y v e (a, inl k, is) = left y v (r.keeps x y v e (a, k, is))
    keeps x y v e (a, inr k, is) = right y v (s.keeps x y v e (a, k, is))

exchange_textual : (way toward lost : List ℕ) (kind lost_kind : Kind) → Textual (read_as said (exchange Log way toward lost kind lost_kind))
exchange_textual way toward lost kind lost_kind =
    placed_textual (just way) said (λ p. event_of p.0 p.1.0 p.1.1) (λ (m : Message × Address). (m.1.kind, m.0.0 ++ list_text m.0.2, far_of m.1.target)) (λ p. refl)
    (message_textual (behind_textual (just toward) (address_textual lost kind lost_kind)))

timer_textual : (words : Set) (kind : Kind) → Textual (read_as said (timer Log words kind))
timer_textual words kind =
    placed_textual words said (λ p. event_of p.0 p.1.0 (address_of kind Nobody p.1.1)) (λ (m : Message × Orders). (kind, m.0.0 ++ list_text m.0.2, far_of Nobody)) (λ p. refl) (message_textual orders_textual)

action_textual : Textual (read_as said (action Log))
action_textual =
    placed_textual (just (codes "action")) said (λ p. event_of p.0 (plain p.1.0) (address_of Action Nobody p.1.1)) (λ (m : List ℕ × Orders). (Action, m.0 ++ list_text None, far_of Nobody)) (λ p. refl)
    (seq_textual (bytes_textual names_or_strings) orders_textual)

creation_textual : Textual (read_as said (creation Log))
creation_textual =
    placed_textual (just (codes "create")) said (λ p. event_of p.0 (plain p.1.0) (address_of Create (Instance p.1.0) p.1.1)) (λ (m : List ℕ × Orders). (Create, m.0 ++ list_text None, far_of (Instance m.0))) (λ p. refl)
    (seq_textual (bytes_textual names) orders_textual)

act_textual : Textual (read_as said (act Log))
act_textual = either_textual said (exchange_textual (codes "out") (codes "to") (codes "lost") Output OutputLost)
    (either_textual said (exchange_textual (codes "in") (codes "from") (codes "found") Input InputFound)
    (either_textual said action_textual (either_textual said (timer_textual start_words TimerStart) (either_textual said (timer_textual stop_words TimerStop)
    (either_textual said (timer_textual (just (codes "timeout")) Timeout) creation_textual)))))

-- the same with what the act says in place of the act
abbrev saying : Grammar Label
saying = read_as (λ (p : List ℕ × Said). said_at p.0 p.1) (seq name (behind (just (codes ":")) (read_as said (act Log))))

saying_textual : Textual saying
saying_textual = read_textual (λ (p : List ℕ × Said). said_at p.0 p.1) (seq_textual (bytes_textual names) (behind_textual (just (codes ":")) act_textual))

pub event_textual : Textual event
event_textual = record { keeps = keeps }
  where
    said_of : (x : List Token) (l : Label) → event.reads x l → saying.reads x l
    said_of x l (p, (y, z, cut, at, (q, (u, w, split, colon, does), is_act)), is) =
        ((p.0, said p.1), (y, z, cut, at, ((q.0, said q.1), (u, w, split, colon, (q.1, does, refl)), ap said is_act)), is)

    event_of_said : (y : List Token) (l : Label) → saying.reads y l → event.reads y l
    event_of_said x l (p, (y, z, cut, at, (q, (u, w, split, colon, (e, does, is_said)), is_act)), is) =
        ((p.0, e), (y, z, cut, at, ((q.0, e), (u, w, split, colon, does), refl)), is ∙ ap (λ (s : Said). said_at p.0 s) (is_act ∙ is_said))

    keeps : (x y : List Token) (l : Label) → texts x ≡ texts y → event.reads x l → event.reads y l
    keeps x y l e h = event_of_said y l (saying_textual.keeps x y l e (said_of x l h))

pub plain_textual : Textual plain_message
plain_textual = tail_textual (bytes_textual names) parameters_textual

-- ---- nothing opens a level

ending_shallow : Shallow ending
ending_shallow = read_shallow (λ p. p.0) (optional_shallow dropped (behind_shallow (just (codes "comment")) (bytes_shallow (string ∷ []))) (bytes_shallow (just (codes ";"))))

orders_shallow : Shallow (orders Log)
orders_shallow = read_shallow (λ t. no_orders) ending_shallow

parameters_shallow : Shallow parameters
parameters_shallow = behind_shallow (just (codes "(")) (read_shallow (λ p. p.0) (optional_shallow all_or_none
    (read_shallow all_of (chain_shallow (bytes_shallow names_or_strings) (behind_shallow (just (codes ",")) (bytes_shallow names_or_strings)))) (bytes_shallow (just (codes ")")))))

message_shallow : {A : Type 0} {S : Grammar A} → Shallow S → Shallow (message S)
message_shallow {A = A} s = read_shallow (λ (p : List ℕ × (Option (List ℕ) × (Option (List (List ℕ)) × A))). ((p.0, p.1.0, p.1.1.0), p.1.1.1))
    (seq_shallow (bytes_shallow names) (optional_shallow kept (behind_shallow (just (codes ",")) (bytes_shallow names)) (optional_shallow kept parameters_shallow s)))

address_shallow : (lost : List ℕ) (kind lost_kind : Kind) → Shallow (address Log lost kind lost_kind)
address_shallow lost kind lost_kind =
    or_shallow (read_shallow (λ p. address_of kind (Instance p.0) p.1) (seq_shallow (bytes_shallow names) orders_shallow))
    (or_shallow (read_shallow (λ p. address_of kind (Env p.0) p.1) (behind_shallow (just (codes "env")) (read_shallow (λ o. (None, o)) orders_shallow)))
    (read_shallow (λ p. address_of lost_kind (named p.0) p.1) (behind_shallow (just lost) (optional_shallow kept (bytes_shallow names) orders_shallow))))

placed_shallow : {A B : Type 0} {R : Grammar A} (words : Set) (f : Place × A → B) → Shallow R → Shallow (read_as f (placed words R))
placed_shallow words f r = record { none = (behind_shallow words r).none }

exchange_shallow : (way toward lost : List ℕ) (kind lost_kind : Kind) → Shallow (exchange Log way toward lost kind lost_kind)
exchange_shallow way toward lost kind lost_kind = placed_shallow (just way) (λ p. event_of p.0 p.1.0 p.1.1) (message_shallow (behind_shallow (just toward) (address_shallow lost kind lost_kind)))

timer_shallow : (words : Set) (kind : Kind) → Shallow (timer Log words kind)
timer_shallow words kind = placed_shallow words (λ p. event_of p.0 p.1.0 (address_of kind Nobody p.1.1)) (message_shallow orders_shallow)

action_shallow : Shallow (action Log)
action_shallow = placed_shallow (just (codes "action")) (λ p. event_of p.0 (plain p.1.0) (address_of Action Nobody p.1.1)) (seq_shallow (bytes_shallow names_or_strings) orders_shallow)

creation_shallow : Shallow (creation Log)
creation_shallow = placed_shallow (just (codes "create")) (λ p. event_of p.0 (plain p.1.0) (address_of Create (Instance p.1.0) p.1.1)) (seq_shallow (bytes_shallow names) orders_shallow)

act_shallow : Shallow (act Log)
act_shallow = or_shallow (exchange_shallow (codes "out") (codes "to") (codes "lost") Output OutputLost) (or_shallow (exchange_shallow (codes "in") (codes "from") (codes "found") Input InputFound)
    (or_shallow action_shallow (or_shallow (timer_shallow start_words TimerStart) (or_shallow (timer_shallow stop_words TimerStop) (or_shallow (timer_shallow (just (codes "timeout")) Timeout) creation_shallow)))))

pub event_shallow : Shallow event
event_shallow = read_shallow (λ p. label_of p.0 p.1) (seq_shallow (bytes_shallow names) (behind_shallow (just (codes ":")) act_shallow))

pub plain_shallow : Shallow plain_message
plain_shallow = tail_shallow (bytes_shallow names) parameters_shallow
