-- The event of a log that was read is written so that it reads back, without what its label lacks: the pairing name, and where it stood.
use Rattle.std.proofs.Common.{ℕ, ◌≡◌, ◌∙◌, ◌++◌, ◌⊎◌, List, [], ◌∷◌, Option, Some, None, refl, sym, ap, subst, inl, inr, append_assoc, codes}
use Rattle.msc_base.specs.declared.label.Far.{Far}
use Rattle.msc_base.specs.declared.label.Kind.{Kind}
use Rattle.msc_base.specs.declared.label.Kind.TheVariants.{Output, Input, OutputLost, InputFound, Action, TimerStart, TimerStop, Timeout, Create}
use Rattle.msc_base.specs.declared.label.Label.{Label}
use Rattle.msc_base.specs.declared.place.Place.{Place}
use Rattle.msc_tokens.specs.declared.token.Token.{Token}
use Rattle.msc_tree.specs.Labels.{far_of, label_of}
use Rattle.msc_tree.specs.declared.event.RawEvent.{RawEvent}
use Rattle.msc_tree.specs.declared.event.Target.{Target}
use Rattle.msc_tree.specs.declared.event.Target.TheVariants.{Nobody, Env, Instance, Gate}
use Rattle.token_grammar.specs.Languages.{Set, just, names_or_strings, texts}
use Rattle.token_grammar.specs.Grammars.{Grammar, seq, maybe, optional, behind}
use Rattle.token_grammar.specs.Parts.{name, ending, kept, placed}
use Rattle.token_grammar.specs.Messages.{Message, item, message, parameters, start_words, stop_words}
use Rattle.msc_events.specs.Events.{orders, through, named, address_of, address, to_lost, event_of, exchange, output, input, plain, action, timer, creation, act}
use Rattle.msc_events.specs.declared.event_parts.Address.{Address}
use Rattle.msc_events.specs.declared.event_parts.Orders.{Orders}
use Rattle.msc_events.specs.declared.event_parts.Origin.TheVariants.{Log}
use Rattle.msc_print.specs.Words.{Words, alone, if_any, end_words}
use Rattle.msc_print.specs.EventWords.{act_words, message_words, parameter_words, target_words}
use Rattle.msc_print.proofs.Backs.{Back, Any, same, nothing, both, beside, FitsFixed, back_seq, back_or, back_as, back_so, back_bytes, back_behind, back_placed, back_optional, item_plain}
use Rattle.msc_print.proofs.PartsBack.{ending_back, name_back, parameters_back, far_words}
use Rattle.msc_print.proofs.Tidy.{Tidy, Proper, proper_append}

-- ---- a part that isn't written again

module _ {A B D : Type 0} (R : Grammar A) (S : Grammar B) {Q : B → Type 0} {u : B → Words} {g : B → D} (s : Back S Q u g) where
  abbrev behind_part : Option A × B → B
  behind_part v = v.1

  maybe_back : (x : List Token) (v : Option A × B) → (maybe R S).reads x v → Q v.1 × ((t : List Token) → texts t ≡ u v.1 → (b : Option A × B) × (maybe R S).reads t b × (g b.1 ≡ g v.1))
  maybe_back x v (inl h) =
      let is : v.1 ≡ h.0.1 = ap behind_part h.2 in
      let known = s.back h.1.1 h.0.1 h.1.4 in (
        subst Q (sym is) known.0,
        λ t e. let b = known.1 t (e ∙ ap u is) in ((None, b.0), inr (b.0, b.1, refl), b.2 ∙ sym (ap g is)),
      )
  maybe_back x v (inr h) =
      let is : v.1 ≡ h.0 = ap behind_part h.2 in
      let known = s.back x h.0 h.1 in (
        subst Q (sym is) known.0,
        λ t e. let b = known.1 t (e ∙ ap u is) in ((None, b.0), inr (b.0, b.1, refl), b.2 ∙ sym (ap g is)),
      )

  maybe_tidy : (x : List Token) (v : Option A × B) → (maybe R S).reads x v → Proper x → Tidy (u v.1)
  maybe_tidy x v (inl h) proper =
      let known = proper_append h.1.0 h.1.1 (subst Proper h.1.2 proper) in
      subst Tidy (sym (ap u (ap behind_part h.2))) (s.tidy h.1.1 h.0.1 h.1.4 known.1)
  maybe_tidy x v (inr h) proper = subst Tidy (sym (ap u (ap behind_part h.2))) (s.tidy x h.0 h.1 proper)

  back_maybe : Back (maybe R S) (λ p. Q p.1) (λ p. u p.1) (λ p. g p.1)
  back_maybe = record { back = maybe_back; tidy = maybe_tidy }

  back_dropped : Back (optional kept R S) (λ p. Q p.1) (λ p. u p.1) (λ p. g p.1)
  back_dropped = back_as (λ p. (kept p.0, p.1)) (maybe R S) (λ p. Q p.1) (λ p. u p.1) (λ p. g p.1) same back_maybe
      (λ p m. m) (λ p m. refl) (λ p. refl)

-- ---- the parts of an act

-- what a label has of a message
abbrev pub kept_of : Message → List ℕ × Option (List (List ℕ))
kept_of m = (m.0, m.2)

abbrev pub plain_words : Message → Words
plain_words m = m.0 ∷ parameter_words m.2

plain_message_back : {A B : Type 0} (R : Grammar A) {P : A → Type 0} {w : A → Words} {f : A → B} → Back R P w f → Back (message R) (λ p. P p.1) (beside plain_words w) (both kept_of f)
plain_message_back {B = B} R {P = P} {w = w} {f = f} r =
    back_as (λ p. ((p.0, p.1.0, p.1.1.0), p.1.1.1)) (seq name (optional kept (behind (just (codes ",")) name) (optional kept parameters R))) (λ p. P p.1) (beside plain_words w) (both kept_of f) shown
    (back_seq name _ name_back (back_dropped (behind (just (codes ",")) name) (optional kept parameters R)
    (back_optional kept parameters R Any parameter_words same same parameters_back r tt (λ a m. tt) refl (λ a m. refl) refl (λ a. refl))))
    (λ p m. m.1.1) (λ p m. refl) (λ p. refl)
  where
    shown : List ℕ × (Option (List (List ℕ)) × B) → (List ℕ × Option (List (List ℕ))) × B
    shown c = ((c.0, c.1.0), c.1.1)

orders_back : Back (orders Log) Any (λ o. end_words) nothing
orders_back = back_as _ ending Any (λ o. end_words) nothing nothing ending_back (λ a m. tt) (λ a m. refl) (λ a. refl)

-- an end that a log has: no gate
abbrev pub IsPlain : Target → Type 0
IsPlain Nobody = Unit {0}
IsPlain (Env None) = Unit {0}
IsPlain (Env (Some gate)) = ⊥
IsPlain (Instance instance_name) = Unit {0}
IsPlain (Gate reference gate) = ⊥

abbrev pub address_words : Address → Words
address_words a = far_words a.kind a.target ++ end_words

-- what a label has of an address
abbrev pub end_of : Address → Kind × Far
end_of a = (a.kind, far_of a.target)

module _ (lost : List ℕ) (kind lost_kind : Kind) (is : FitsFixed (just lost) lost) (plain_is : (t : Target) → far_words kind t ≡ target_words t) (lost_is : (t : Target) → far_words lost_kind t ≡ lost ∷ target_words t) where
  abbrev OneOf : Address → Type 0
  OneOf a = ((a.kind ≡ kind) ⊎ (a.kind ≡ lost_kind)) × IsPlain a.target

  named_is : (o : Option (List ℕ)) → target_words (named o) ≡ if_any alone o
  named_is None = refl
  named_is (Some n) = refl

  named_plain : (o : Option (List ℕ)) → IsPlain (named o)
  named_plain None = tt
  named_plain (Some n) = tt

  abbrev none_through : Option (List ℕ) × Orders → Type 0
  none_through p = p.0 ≡ None

  through_back : Back (through Log) none_through (λ p. end_words) nothing
  through_back = back_as _ (orders Log) none_through (λ p. end_words) nothing nothing orders_back (λ a m. refl) (λ a m. refl) (λ a. refl)

  env_plain : (o : Option (List ℕ)) → o ≡ None → IsPlain (Env o)
  env_plain None e = tt
  env_plain (Some g) e = cc

  env_words : (o : Option (List ℕ)) → o ≡ None → target_words (Env o) ≡ codes "env" ∷ []
  env_words None e = refl
  env_words (Some g) e = cc

  address_back : Back (address Log lost kind lost_kind) OneOf address_words end_of
  address_back = back_or _ _
      (back_as (λ p. address_of kind (Instance p.0) p.1) (seq name (orders Log)) OneOf address_words end_of (λ c. (kind, far_of (Instance c.0))) (back_seq name (orders Log) name_back orders_back)
      (λ a m. (inl refl, tt)) (λ a m. ap (λ l. l ++ end_words) (plain_is (Instance a.0))) (λ a. refl))
      (back_or _ _
      (back_as (λ p. address_of kind (Env p.0) p.1) (behind (just (codes "env")) (through Log)) OneOf address_words end_of (λ c. (kind, far_of (Env None)))
      (back_behind (just (codes "env")) (codes "env") (through Log) refl through_back)
      (λ a m. (inl refl, env_plain a.0 m)) (λ a m. ap (λ l. l ++ end_words) (plain_is (Env a.0) ∙ env_words a.0 m)) (λ a. refl))
      (back_as (λ p. address_of lost_kind (named p.0) p.1) (behind (just lost) (optional kept name (orders Log))) OneOf address_words end_of (λ c. (lost_kind, far_of (named c.0)))
      (back_behind (just lost) lost _ is (back_optional kept name (orders Log) Any (if_any alone) same same name_back orders_back tt (λ a m. tt) refl (λ a m. refl) refl (λ a. refl)))
      (λ a m. (inr refl, named_plain a.0)) (λ a m. ap (λ l. l ++ end_words) (lost_is (named a.0) ∙ ap (λ l. lost ∷ l) (named_is a.0))) (λ a. refl)))

-- ---- acts

-- the event without its pairing name
abbrev pub unpaired : RawEvent → RawEvent
unpaired e = record e { pairing = None }

-- what is written of an act in a log
abbrev pub log_words : RawEvent → Words
log_words e = act_words e.kind (unpaired e) ++ end_words

-- what a label has of an event at an instance without a name
abbrev pub said_of : RawEvent → Label
said_of e = label_of [] e

-- the event has what its kind is written with, and nothing else
abbrev pub FitsKind : Kind → RawEvent → Type 0
FitsKind Output e = IsPlain e.target
FitsKind Input e = IsPlain e.target
FitsKind OutputLost e = IsPlain e.target
FitsKind InputFound e = IsPlain e.target
FitsKind Action e = (e.parameters ≡ None) × (e.target ≡ Nobody)
FitsKind TimerStart e = e.target ≡ Nobody
FitsKind TimerStop e = e.target ≡ Nobody
FitsKind Timeout e = e.target ≡ Nobody
FitsKind Create e = (e.parameters ≡ None) × (e.target ≡ Instance e.text)

abbrev pub Fits : RawEvent → Type 0
Fits e = FitsKind e.kind e

-- of an exchange of one of two kinds
either_kind : (P : Kind → Type 0) (kind lost_kind k : Kind) → (k ≡ kind) ⊎ (k ≡ lost_kind) → P kind → P lost_kind → P k
either_kind P kind lost_kind k (inl is) one other = subst P (sym is) one
either_kind P kind lost_kind k (inr is) one other = subst P (sym is) other

-- a label of a message and an address
abbrev joined : (List ℕ × Option (List (List ℕ))) × (Kind × Far) → Label
joined c = record (label_of [] (event_of (record { byte = 0; line = 0; column = 0 }) (c.0.0, None, c.0.1) (address_of c.1.0 Nobody (record { earlier_than = []; later_than = [] })))) { far = c.1.1 }

module _ (way toward lost : List ℕ) (kind lost_kind : Kind) (way_fits : FitsFixed (just way) way) (toward_fits : FitsFixed (just toward) toward) (lost_fits : FitsFixed (just lost) lost)
    (plain_is : (t : Target) → far_words kind t ≡ target_words t) (lost_is : (t : Target) → far_words lost_kind t ≡ lost ∷ target_words t)
    (one : (e : RawEvent) → act_words kind e ≡ way ∷ (message_words e ++ toward ∷ far_words kind e.target)) (other : (e : RawEvent) → act_words lost_kind e ≡ way ∷ (message_words e ++ toward ∷ far_words lost_kind e.target))
    (one_fits : (e : RawEvent) → IsPlain e.target → FitsKind kind e) (other_fits : (e : RawEvent) → IsPlain e.target → FitsKind lost_kind e) where
  exchange_back : Back (exchange Log way toward lost kind lost_kind) Fits log_words said_of
  exchange_back = back_as (λ p. event_of p.0 p.1.0 p.1.1) (placed (just way) (message (behind (just toward) (address Log lost kind lost_kind)))) Fits log_words said_of joined
      (back_placed (just way) way _ way_fits (plain_message_back (behind (just toward) (address Log lost kind lost_kind)) (back_behind (just toward) toward _ toward_fits (address_back lost kind lost_kind lost_fits plain_is lost_is))))
      (λ p m. let e = event_of p.0 p.1.0 p.1.1 in either_kind (λ k. FitsKind k e) kind lost_kind p.1.1.kind m.0 (one_fits e m.1) (other_fits e m.1))
      (λ p m. let e = unpaired (event_of p.0 p.1.0 p.1.1) in
      ap (λ l. l ++ end_words) (either_kind (λ k. act_words k e ≡ way ∷ (message_words e ++ toward ∷ far_words k e.target)) kind lost_kind p.1.1.kind m.0 (one e) (other e))
      ∙ regroup (plain_words p.1.0) (far_words p.1.1.kind p.1.1.target) end_words)
      (λ p. refl)
    where
      regroup : (a b c : Words) → (way ∷ (a ++ toward ∷ b)) ++ c ≡ way ∷ (a ++ toward ∷ (b ++ c))
      regroup a b c = simp append_assoc

timer_back : (words : Set) (text : List ℕ) (k : Kind) → FitsFixed words text → ((e : RawEvent) → act_words k e ≡ text ∷ message_words e) → ((e : RawEvent) → e.target ≡ Nobody → FitsKind k e) → Back (timer Log words k) Fits log_words said_of
timer_back words text k fits is fit = back_as (λ p. event_of p.0 p.1.0 (address_of k Nobody p.1.1)) (placed words (message (orders Log))) Fits log_words said_of (λ c. joined (c.0, (k, far_of Nobody)))
    (back_placed words text _ fits (plain_message_back (orders Log) orders_back)) (λ p m. fit (event_of p.0 p.1.0 (address_of k Nobody p.1.1)) refl)
    (λ p m. ap (λ l. l ++ end_words) (is (unpaired (event_of p.0 p.1.0 (address_of k Nobody p.1.1))))) (λ p. refl)

pub act_back : Back (act Log) Fits log_words said_of
act_back =
    back_or (output Log) _ (exchange_back (codes "out") (codes "to") (codes "lost") Output OutputLost refl refl refl (λ t. refl) (λ t. refl) (λ e. refl) (λ e. refl) (λ e h. h) (λ e h. h))
    (back_or (input Log) _ (exchange_back (codes "in") (codes "from") (codes "found") Input InputFound refl refl refl (λ t. refl) (λ t. refl) (λ e. refl) (λ e. refl) (λ e h. h) (λ e h. h))
    (back_or (action Log) _ (back_as (λ p. event_of p.0 (plain p.1.0) (address_of Action Nobody p.1.1)) (placed (just (codes "action")) (seq item (orders Log))) Fits log_words said_of (λ c. joined ((c.0, None), (Action, far_of Nobody)))
    (back_placed (just (codes "action")) (codes "action") _ refl (back_seq item (orders Log) (back_bytes names_or_strings item_plain) orders_back)) (λ p m. (refl, refl)) (λ p m. refl) (λ p. refl))
    (back_or (timer Log start_words TimerStart) _ (timer_back start_words (codes "starttimer") TimerStart refl (λ e. refl) (λ e h. h))
    (back_or (timer Log stop_words TimerStop) _ (timer_back stop_words (codes "stoptimer") TimerStop refl (λ e. refl) (λ e h. h))
    (back_or (timer Log (just (codes "timeout")) Timeout) (creation Log) (timer_back (just (codes "timeout")) (codes "timeout") Timeout refl (λ e. refl) (λ e h. h))
    (back_as (λ p. event_of p.0 (plain p.1.0) (address_of Create (Instance p.1.0) p.1.1)) (placed (just (codes "create")) (seq name (orders Log))) Fits log_words said_of (λ c. joined ((c.0, None), (Create, far_of (Instance c.0))))
    (back_placed (just (codes "create")) (codes "create") _ refl (back_seq name (orders Log) name_back orders_back)) (λ p m. (refl, refl)) (λ p m. refl) (λ p. refl)))))))

-- ---- the event

-- what is written of an event at an instance
abbrev pub line_words : List ℕ × RawEvent → Words
line_words p = p.0 ∷ codes ":" ∷ log_words p.1

abbrev pub parts_of : List ℕ × RawEvent → List ℕ × Label
parts_of p = (p.0, said_of p.1)

pub parts_back : Back (seq name (behind (just (codes ":")) (act Log))) (λ p. Fits p.1) line_words parts_of
parts_back = back_so (seq name (behind (just (codes ":")) (act Log))) (λ p. Fits p.1) line_words parts_of same
    (back_seq name _ name_back (back_behind (just (codes ":")) (codes ":") (act Log) refl act_back)) (λ p m. m.1) (λ p m. refl) (λ p. refl)
