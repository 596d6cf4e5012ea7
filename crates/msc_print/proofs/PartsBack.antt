-- Parts of charts without nesting that were read are written so that they read back: names, declarations, events.
use Rattle.std.proofs.Common.{ℕ, ◌≡◌, ◌∙◌, ◌++◌, ◌⊎◌, true, List, [], ◌∷◌, Option, Some, None, map, refl, sym, ap, subst, inl, inr, append_assoc, option_map, codes}
use Rattle.msc_base.specs.declared.label.Kind.{Kind}
use Rattle.msc_base.specs.declared.label.Kind.TheVariants.{Output, Input, OutputLost, InputFound, Action, TimerStart, TimerStop, Timeout, Create}
use Rattle.msc_base.specs.declared.place.Place.{Place}
use Rattle.msc_tokens.specs.Places.{first_place}
use Rattle.msc_tree.specs.declared.chart.Cover.{Cover}
use Rattle.msc_tree.specs.declared.chart.Cover.TheVariants.{All, Listed}
use Rattle.msc_tree.specs.declared.event.RawEvent.{RawEvent}
use Rattle.msc_tree.specs.declared.event.Target.{Target}
use Rattle.msc_tree.specs.declared.event.Target.TheVariants.{Nobody, Env, Instance, Gate}
use Rattle.msc_tree.specs.declared.reference.Join.{Join}
use Rattle.msc_tree.specs.declared.reference.JoinEnd.TheVariants as join_end
use Rattle.token_grammar.specs.Languages.{Set, among, just, names, names_or_strings}
use Rattle.token_grammar.specs.Grammars.{Grammar, word, seq, until, tail, optional, behind}
use Rattle.token_grammar.specs.Parts.{name, placed_name, mark, ending, kept, all_or_none, placed, separated, name_list}
use Rattle.token_grammar.specs.Messages.{Message, item, parameters, message, start_words, stop_words}
use Rattle.msc_events.specs.Declarations.{kind_of, kind, refinement, decl_of, decl, declaration, heading}
use Rattle.msc_events.specs.Events.{orders, named, address_of, address, event_of, exchange, output, input, plain, action, timer, creation, act, tagged, label, single, coregion, stop}
use Rattle.msc_events.specs.Multis as multis
use Rattle.msc_events.specs.Multis.{sharers, cover_of, shared, shared_in, condition, join, joins}
use Rattle.msc_events.specs.declared.event_parts.Orders.{Orders}
use Rattle.msc_events.specs.declared.event_parts.Address.{Address}
use Rattle.msc_events.specs.declared.event_parts.Origin.TheVariants as setting
use Rattle.msc_print.specs.Words.{Words, alone, name_words, names_behind, separated_words, if_any, end_words}
use Rattle.msc_print.specs.EventWords.{act_words, coregion_words, event_words, message_words, pairing_words, parameter_words, tag_words, target_words}
use Rattle.msc_print.specs.ExpressionWords.{enclosed}
use Rattle.msc_print.specs.StatementWords.{condition_words, cover_words, decl_words, join_words, join_end_words, joins_words, kind_words, left_words, refined_words, shared_words}
use Rattle.msc_print.specs.ChartWords.{heading_words, related_words}
use Rattle.msc_print.specs.Unplaced.{unplaced_decl, unplaced_event, unplaced_join}
use Rattle.msc_print.proofs.Backs.{Back, Any, same, nothing, both, beside, FitsFixed, Filled, one_token, back_seq, back_or, back_as, back_so, back_bytes, back_mark, back_word, back_placed_word, back_behind, back_placed, back_separated, back_until, back_optional, back_tail, but_plain, item_plain}
use Rattle.msc_print.proofs.Tidy.{done, fixed_tidy}
use Rattle.msc_events.specs.declared.orientation.Orientation.{Orientation}
use Rattle.msc_events.specs.declared.orientation.Orientation.TheVariants as written

pub ending_back : Back ending Any (λ u. end_words) same
ending_back = record {
  back = λ x a h. (
    tt,
    λ t e.
        let c = one_token t (codes ";") e in
        let fits : among (just (codes ";")) c.0 ≡ true = rw c.2 refl in
        (tt, ((tt, c.0.bytes), ((None, c.0.bytes), inr (c.0.bytes, (c.0, (c.1, fits), refl), refl), refl), refl), refl),
  );
  tidy = λ x a h proper. fixed_tidy (codes ";") [] refl done;
}

pub name_back : Back name Any alone same
name_back = back_bytes names (but_plain [])

map_same : {A : Type 0} (xs : List A) → map same xs ≡ xs
map_same [] = refl
map_same (x ∷ xs) = ap (λ l. x ∷ l) (map_same xs)

pub names_back : Back name_list Filled name_words same
names_back = back_so name_list Filled name_words same same (back_separated (codes ",") name refl name_back) (λ a m. m) (λ a m. refl) (λ a. sym (map_same a))

pub names_filled : (text : List ℕ) (l : List (List ℕ)) → Filled l → names_behind text l ≡ text ∷ name_words l
names_filled text [] m = absurd m
names_filled text (n ∷ l) m = refl

-- ---- declarations

pub heading_back : Back heading Any heading_words same
heading_back = back_behind (just (codes "mscdocument")) (codes "mscdocument") _ refl
    (back_as (λ p. record { name = p.0; related = p.1.0 }) (seq name (optional kept (behind (just (codes "related")) (behind (just (codes "to")) name)) ending)) Any (λ h. h.name ∷ (related_words h.related ++ end_words)) same (λ c. record { name = c.0; related = c.1.0 })
    (back_seq name _ name_back
    (back_optional kept (behind (just (codes "related")) (behind (just (codes "to")) name)) ending Any related_words same same
    (back_behind (just (codes "related")) (codes "related") _ refl (back_behind (just (codes "to")) (codes "to") name refl name_back)) ending_back
    tt (λ a m. tt) refl (λ a m. refl) refl (λ a. refl)))
    (λ a m. tt) (λ a m. refl) (λ a. refl))

kind_filled : (p : List ℕ × Option (List ℕ)) → Filled (kind_of p)
kind_filled (a, None) = tt
kind_filled (a, Some b) = tt

kind_spelled : (p : List ℕ × Option (List ℕ)) → kind_of p ≡ alone p.0 ++ if_any alone p.1
kind_spelled (a, None) = refl
kind_spelled (a, Some b) = refl

kind_shown : (p : List ℕ × Option (List ℕ)) → kind_of p ≡ kind_of (p.0, option_map same p.1)
kind_shown (a, None) = refl
kind_shown (a, Some b) = refl

-- the names of a kind, one after another
kind_back : Back kind Filled (λ k. k) same
kind_back = back_as kind_of (tail name name) Filled (λ k. k) same kind_of (back_tail name name (if_any alone) name_back name_back refl (λ b m. refl)) (λ p m. kind_filled p) (λ p m. kind_spelled p) kind_shown

abbrev pub refined_by : Place × List ℕ → Words
refined_by p = codes "decomposed" ∷ codes "as" ∷ p.1 ∷ []

abbrev pub chart_of : Place × List ℕ → List ℕ
chart_of p = p.1

pub refinement_back : Back refinement Any refined_by chart_of
refinement_back = back_placed (just (codes "decomposed")) (codes "decomposed") (behind (just (codes "as")) name) refl (back_behind (just (codes "as")) (codes "as") name refl name_back)

-- the chart that refines an instance, without its place
abbrev pub chart_in : Option (Place × List ℕ) → Option (List ℕ)
chart_in = option_map chart_of

decl_is : (at : List ℕ × Place) (k : List (List ℕ)) (r : Option (Place × List ℕ)) → decl_words (decl_of at k r) ≡ at.0 ∷ (kind_words k ++ refined_words (chart_in r))
decl_is at k None = refl
decl_is at k (Some r) = refl

decl_shown : (at : List ℕ × Place) (k : List (List ℕ)) (r : Option (Place × List ℕ)) → unplaced_decl (decl_of at k r) ≡ record { name = at.0; kind = k; refined = chart_in r; place = first_place }
decl_shown at k None = refl
decl_shown at k (Some r) = refl

pub decl_back : Back decl Any decl_words unplaced_decl
decl_back = back_as (λ p. decl_of p.0.0 (all_or_none p.0.1) p.1) (tail (tail placed_name (behind (just (codes ":")) kind)) refinement) Any decl_words unplaced_decl
    (λ c. record { name = c.0.0; kind = all_or_none c.0.1; refined = c.1; place = first_place })
    (back_tail (tail placed_name (behind (just (codes ":")) kind)) refinement refined_of
    (back_tail placed_name (behind (just (codes ":")) kind) (λ k. kind_words (all_or_none k)) (back_placed_word names (but_plain [])) (back_behind (just (codes ":")) (codes ":") kind refl kind_back) refl kind_written)
    refinement_back refl (λ b m. refl))
    (λ p m. tt) (λ p m. decl_is p.0.0 (all_or_none p.0.1) p.1) (λ p. decl_shown p.0.0 (all_or_none p.0.1) p.1 ∙ ap (λ k. record { name = p.0.0.0; kind = all_or_none k; refined = chart_in p.1; place = first_place }) (option_same p.0.1))
  where
    refined_of : Option (Place × List ℕ) → Words
    refined_of r = refined_words (chart_in r)

    kind_written : (k : List (List ℕ)) → Filled k → kind_words (all_or_none (Some k)) ≡ codes ":" ∷ k
    kind_written [] m = absurd m
    kind_written (n ∷ k) m = refl

    option_same : {A : Type 0} (o : Option A) → o ≡ option_map same o
    option_same None = refl
    option_same (Some a) = refl

-- ---- events

abbrev pub orders_words : Orders → Words
orders_words o = names_behind (codes "before") o.earlier_than ++ (names_behind (codes "after") o.later_than ++ end_words)

pub orders_back : Back (orders setting.Chart) Any orders_words same
orders_back = back_as (λ p. record { earlier_than = p.0; later_than = p.1.0 }) (optional all_or_none (behind (just (codes "before")) name_list) (optional all_or_none (behind (just (codes "after")) name_list) ending))
    Any orders_words same (λ c. record { earlier_than = c.0; later_than = c.1.0 })
    (back_optional all_or_none (behind (just (codes "before")) name_list) (optional all_or_none (behind (just (codes "after")) name_list) ending) Any (names_behind (codes "before")) same all_or_none
    (back_behind (just (codes "before")) (codes "before") name_list refl names_back)
    (back_optional all_or_none (behind (just (codes "after")) name_list) ending Any (names_behind (codes "after")) same all_or_none
    (back_behind (just (codes "after")) (codes "after") name_list refl names_back) ending_back tt (λ a m. tt) refl (λ a m. names_filled (codes "after") a m) refl (λ a. refl))
    tt (λ a m. tt) refl (λ a m. names_filled (codes "before") a m) refl (λ a. refl))
    (λ a m. tt) (λ a m. refl) (λ a. refl)

pub parameters_back : Back parameters Any (λ l. enclosed (name_words l)) same
parameters_back = back_behind (just (codes "(")) (codes "(") _ refl
    (back_as (λ p. p.0) (optional all_or_none (separated (codes ",") item) (mark (codes ")"))) Any (λ l. name_words l ++ codes ")" ∷ []) same (λ c. c.0)
    (back_optional all_or_none (separated (codes ",") item) (mark (codes ")")) Any name_words same all_or_none
    (back_so (separated (codes ",") item) Any name_words same same (back_separated (codes ",") item refl (back_bytes names_or_strings item_plain)) (λ a m. tt) (λ a m. refl) (λ a. sym (map_same a)))
    (back_mark (just (codes ")")) (codes ")") refl) tt (λ a m. tt) refl (λ a m. refl) refl (λ a. refl))
    (λ a m. tt) (λ a m. refl) (λ a. refl))

abbrev pub said : Message → Words
said m = m.0 ∷ (pairing_words m.1 ++ parameter_words m.2)

pub message_back : {A B : Type 0} (R : Grammar A) {P : A → Type 0} {w : A → Words} {f : A → B} → Back R P w f → Back (message R) (λ p. P p.1) (beside said w) (both same f)
message_back {B = B} R {P = P} {w = w} {f = f} r =
    back_as (λ p. ((p.0, p.1.0, p.1.1.0), p.1.1.1)) (seq name (optional kept (behind (just (codes ",")) name) (optional kept parameters R))) (λ p. P p.1) (beside said w) (both same f) message_of
    (back_seq name _ name_back
    (back_optional kept (behind (just (codes ",")) name) (optional kept parameters R) Any pairing_words same same (back_behind (just (codes ",")) (codes ",") name refl name_back)
    (back_optional kept parameters R Any parameter_words same same parameters_back r tt (λ a m. tt) refl (λ a m. refl) refl (λ a. refl))
    tt (λ a m. tt) refl (λ a m. refl) refl (λ a. refl)))
    (λ p m. m.1.1.1) (λ p m. regroup p.0 (pairing_words p.1.0) (parameter_words p.1.1.0) (w p.1.1.1)) (λ p. refl)
  where
    message_of : List ℕ × (Option (List ℕ) × (Option (List (List ℕ)) × B)) → Message × B
    message_of c = ((c.0, c.1.0, c.1.1.0), c.1.1.1)

    regroup : (n : List ℕ) (a b c : Words) → (n ∷ (a ++ b)) ++ c ≡ (n ∷ []) ++ (a ++ (b ++ c))
    regroup n a b c = simp append_assoc

-- the other end, as it is written behind its `to` or `from`
abbrev pub far_words : Kind → Target → Words
far_words OutputLost target = codes "lost" ∷ target_words target
far_words InputFound target = codes "found" ∷ target_words target
far_words _ target = target_words target

abbrev pub address_words : Address → Words
address_words a = far_words a.kind a.target ++ orders_words a.orders

module _ (lost : List ℕ) (kind lost_kind : Kind) (is : FitsFixed (just lost) lost) (plain_is : (t : Target) → far_words kind t ≡ target_words t) (lost_is : (t : Target) → far_words lost_kind t ≡ lost ∷ target_words t) where
  abbrev OneOf : Address → Type 0
  OneOf a = (a.kind ≡ kind) ⊎ (a.kind ≡ lost_kind)

  env_is : (o : Option (List ℕ)) → target_words (Env o) ≡ codes "env" ∷ if_any (λ g. codes "via" ∷ g ∷ []) o
  env_is None = refl
  env_is (Some g) = refl

  named_is : (o : Option (List ℕ)) → target_words (named o) ≡ if_any alone o
  named_is None = refl
  named_is (Some n) = refl

  address_back : Back (address setting.Chart lost kind lost_kind) OneOf address_words same
  address_back = back_or _ _
      (back_as (λ p. address_of kind (Instance p.0) p.1) (seq name (orders setting.Chart)) OneOf address_words same (λ c. address_of kind (Instance c.0) c.1) (back_seq name (orders setting.Chart) name_back orders_back)
      (λ a m. inl refl) (λ a m. ap (λ l. l ++ orders_words a.1) (plain_is (Instance a.0))) (λ a. refl))
      (back_or _ _
      (back_as (λ p. address_of kind (Env p.0) p.1) (behind (just (codes "env")) (optional kept (behind (just (codes "via")) name) (orders setting.Chart))) OneOf address_words same (λ c. address_of kind (Env c.0) c.1)
      (back_behind (just (codes "env")) (codes "env") _ refl (back_optional kept (behind (just (codes "via")) name) (orders setting.Chart) Any (if_any (λ g. codes "via" ∷ g ∷ [])) same same (back_behind (just (codes "via")) (codes "via") name refl name_back) orders_back tt (λ a m. tt) refl (λ a m. refl) refl (λ a. refl)))
      (λ a m. inl refl) (λ a m. ap (λ l. l ++ orders_words a.1) (plain_is (Env a.0) ∙ env_is a.0)) (λ a. refl))
      (back_or _ _
      (back_as (λ p. address_of lost_kind (named p.0) p.1) (behind (just lost) (optional kept name (orders setting.Chart))) OneOf address_words same (λ c. address_of lost_kind (named c.0) c.1)
      (back_behind (just lost) lost _ is (back_optional kept name (orders setting.Chart) Any (if_any alone) same same name_back orders_back tt (λ a m. tt) refl (λ a m. refl) refl (λ a. refl)))
      (λ a m. inr refl) (λ a m. ap (λ l. l ++ orders_words a.1) (lost_is (named a.0) ∙ ap (λ l. lost ∷ l) (named_is a.0))) (λ a. refl))
      (back_as (λ p. address_of kind (Gate p.0 p.1.0) p.1.1) (behind (just (codes "reference")) (seq name (behind (just (codes "via")) (seq name (orders setting.Chart))))) OneOf address_words same (λ c. address_of kind (Gate c.0 c.1.0) c.1.1)
      (back_behind (just (codes "reference")) (codes "reference") _ refl (back_seq name _ name_back (back_behind (just (codes "via")) (codes "via") _ refl (back_seq name (orders setting.Chart) name_back orders_back))))
      (λ a m. inl refl) (λ a m. ap (λ l. l ++ orders_words a.1.1) (plain_is (Gate a.0 a.1.0))) (λ a. refl))))

abbrev pub orders_in : RawEvent → Orders
orders_in e = record { earlier_than = e.order.earlier_than; later_than = e.order.later_than }

-- an event without its label
abbrev pub untagged : RawEvent → Words
untagged e = act_words e.kind e ++ (names_behind (codes "before") e.order.earlier_than ++ (names_behind (codes "after") e.order.later_than ++ end_words))

-- what is written of an exchange of one of two kinds
kind_is_either : (way toward lost : List ℕ) (kind lost_kind k : Kind) (e : RawEvent) → (k ≡ kind) ⊎ (k ≡ lost_kind) →
    act_words kind e ≡ way ∷ (message_words e ++ toward ∷ far_words kind e.target) → act_words lost_kind e ≡ way ∷ (message_words e ++ toward ∷ far_words lost_kind e.target) →
    act_words k e ≡ way ∷ (message_words e ++ toward ∷ far_words k e.target)
kind_is_either way toward lost kind lost_kind k e (inl is) one other = subst (λ (j : Kind). act_words j e ≡ way ∷ (message_words e ++ toward ∷ far_words j e.target)) (sym is) one
kind_is_either way toward lost kind lost_kind k e (inr is) one other = subst (λ (j : Kind). act_words j e ≡ way ∷ (message_words e ++ toward ∷ far_words j e.target)) (sym is) other

module _ (way toward lost : List ℕ) (kind lost_kind : Kind) (way_fits : FitsFixed (just way) way) (toward_fits : FitsFixed (just toward) toward) (lost_fits : FitsFixed (just lost) lost)
    (plain_is : (t : Target) → far_words kind t ≡ target_words t) (lost_is : (t : Target) → far_words lost_kind t ≡ lost ∷ target_words t)
    (one : (e : RawEvent) → act_words kind e ≡ way ∷ (message_words e ++ toward ∷ far_words kind e.target)) (other : (e : RawEvent) → act_words lost_kind e ≡ way ∷ (message_words e ++ toward ∷ far_words lost_kind e.target)) where
  exchange_back : Back (exchange setting.Chart way toward lost kind lost_kind) Any untagged unplaced_event
  exchange_back = back_as (λ p. event_of p.0 p.1.0 p.1.1) (placed (just way) (message (behind (just toward) (address setting.Chart lost kind lost_kind)))) Any untagged unplaced_event (λ c. event_of first_place c.0 c.1)
      (back_placed (just way) way _ way_fits (message_back (behind (just toward) (address setting.Chart lost kind lost_kind)) (back_behind (just toward) toward _ toward_fits (address_back lost kind lost_kind lost_fits plain_is lost_is))))
      (λ p m. tt) (λ p m. ap (λ l. l ++ orders_words p.1.1.orders) (kind_is_either way toward lost kind lost_kind p.1.1.kind (event_of p.0 p.1.0 p.1.1) m (one (event_of p.0 p.1.0 p.1.1)) (other (event_of p.0 p.1.0 p.1.1)))
      ∙ regroup (said p.1.0) (far_words p.1.1.kind p.1.1.target) (orders_words p.1.1.orders)) (λ p. refl)
    where
      regroup : (a b c : Words) → (way ∷ (a ++ toward ∷ b)) ++ c ≡ way ∷ (a ++ toward ∷ (b ++ c))
      regroup a b c = simp append_assoc

act_back : Back (act setting.Chart) Any untagged unplaced_event
act_back =
    back_or (output setting.Chart) _ (exchange_back (codes "out") (codes "to") (codes "lost") Output OutputLost refl refl refl (λ t. refl) (λ t. refl) (λ e. refl) (λ e. refl))
    (back_or (input setting.Chart) _ (exchange_back (codes "in") (codes "from") (codes "found") Input InputFound refl refl refl (λ t. refl) (λ t. refl) (λ e. refl) (λ e. refl))
    (back_or (action setting.Chart) _ (back_as (λ p. event_of p.0 (plain p.1.0) (address_of Action Nobody p.1.1)) (placed (just (codes "action")) (seq item (orders setting.Chart))) Any untagged unplaced_event (λ c. event_of first_place (plain c.0) (address_of Action Nobody c.1))
    (back_placed (just (codes "action")) (codes "action") _ refl (back_seq item (orders setting.Chart) (back_bytes names_or_strings item_plain) orders_back)) (λ p m. tt) (λ p m. refl) (λ p. refl))
    (back_or (timer setting.Chart start_words TimerStart) _ (timer_back start_words (codes "starttimer") TimerStart refl (λ e. refl))
    (back_or (timer setting.Chart stop_words TimerStop) _ (timer_back stop_words (codes "stoptimer") TimerStop refl (λ e. refl))
    (back_or (timer setting.Chart (just (codes "timeout")) Timeout) (creation setting.Chart) (timer_back (just (codes "timeout")) (codes "timeout") Timeout refl (λ e. refl))
    (back_as (λ p. event_of p.0 (plain p.1.0) (address_of Create (Instance p.1.0) p.1.1)) (placed (just (codes "create")) (seq name (orders setting.Chart))) Any untagged unplaced_event (λ c. event_of first_place (plain c.0) (address_of Create (Instance c.0) c.1))
    (back_placed (just (codes "create")) (codes "create") _ refl (back_seq name (orders setting.Chart) name_back orders_back)) (λ p m. tt) (λ p m. refl) (λ p. refl)))))))
  where
    timer_back : (words : Set) (text : List ℕ) (k : Kind) → FitsFixed words text → ((e : RawEvent) → act_words k e ≡ text ∷ message_words e) → Back (timer setting.Chart words k) Any untagged unplaced_event
    timer_back words text k fits is = back_as (λ p. event_of p.0 p.1.0 (address_of k Nobody p.1.1)) (placed words (message (orders setting.Chart))) Any untagged unplaced_event (λ c. event_of first_place c.0 (address_of k Nobody c.1))
        (back_placed words text _ fits (message_back (orders setting.Chart) orders_back)) (λ p m. tt) (λ p m. ap (λ l. l ++ orders_words p.1.1) (is (event_of p.0 p.1.0 (address_of k Nobody p.1.1)))) (λ p. refl)

act_tagged : (k : Kind) (event_name : Option (List ℕ)) (e : RawEvent) → act_words k (tagged event_name e) ≡ act_words k e
act_tagged Output event_name e = refl
act_tagged Input event_name e = refl
act_tagged OutputLost event_name e = refl
act_tagged InputFound event_name e = refl
act_tagged Action event_name e = refl
act_tagged TimerStart event_name e = refl
act_tagged TimerStop event_name e = refl
act_tagged Timeout event_name e = refl
act_tagged Create event_name e = refl

label_back : Back label Any (λ n. codes "label" ∷ n ∷ end_words) same
label_back = back_behind (just (codes "label")) (codes "label") _ refl
    (back_as (λ p. p.0) (seq name (mark (codes ";"))) Any (λ n. n ∷ end_words) same (λ c. c.0) (back_seq name _ name_back (back_mark (just (codes ";")) (codes ";") refl)) (λ a m. tt) (λ a m. refl) (λ a. refl))

pub single_back : Back single Any event_words unplaced_event
single_back = back_as (λ p. tagged p.0 p.1) (optional kept label (act setting.Chart)) Any event_words unplaced_event (λ c. tagged c.0 c.1)
    (back_optional kept label (act setting.Chart) Any tag_words same same label_back act_back tt (λ a m. tt) refl (λ a m. refl) refl (λ a. refl))
    (λ p m. tt) (λ p m. ap (λ (l : Words). tag_words p.0 ++ (l ++ orders_words (orders_in p.1))) (act_tagged p.1.kind p.0 p.1)) (λ p. refl)

abbrev pub coregion_said : Place × List RawEvent → Words
coregion_said p = coregion_words p.1

abbrev pub events_of : Place × List RawEvent → List RawEvent
events_of p = map unplaced_event p.1

pub coregion_back : Back coregion Any coregion_said events_of
coregion_back = back_as (λ p. (p.0, p.1.1.0)) (placed (just (codes "concurrent")) (seq ending (until single (behind (just (codes "endconcurrent")) ending)))) Any coregion_said events_of (λ c. c.1.0)
    (back_placed (just (codes "concurrent")) (codes "concurrent") _ refl (back_seq ending _ ending_back (back_until single single_back (behind (just (codes "endconcurrent")) ending) (back_behind (just (codes "endconcurrent")) (codes "endconcurrent") ending refl ending_back))))
    (λ p m. tt) (λ p m. refl) (λ p. refl)

pub stop_back : Back stop Any (λ p. codes "stop" ∷ end_words) nothing
stop_back = back_as (λ p. p.0) (placed (just (codes "stop")) ending) Any (λ p. codes "stop" ∷ end_words) nothing nothing (back_placed (just (codes "stop")) (codes "stop") ending refl ending_back) (λ p m. tt) (λ p m. refl) (λ p. refl)

-- ---- shared lists, conditions, joins

abbrev pub with_none : {A B : Type 0} → B → Option A × B
with_none b = (None, b)

sharers_back : Back sharers Any left_words same
sharers_back = back_or _ _ (back_as (λ t. All) (word (just (codes "all"))) Any left_words same (λ c. All) (back_word (just (codes "all")) (codes "all") refl) (λ a m. tt) (λ a m. refl) (λ a. refl))
    (back_as Listed name_list Any left_words same Listed names_back (λ a m. tt) (λ a m. refl) (λ a. refl))

cover_is : (c : Cover) → cover_words c ≡ codes "shared" ∷ left_words c
cover_is All = refl
cover_is (Listed l) = refl

pub shared_in_back : {A B : Type 0} (orientation : Orientation) (R : Grammar A) {P : A → Type 0} {w : A → Words} {f : A → B} → Back R P w f → Back (shared_in orientation R) (λ p. P p.1) (beside shared_words w) (both same f)
shared_in_back written.Column R {P = P} {w = w} {f = f} r = back_or _ _
    (back_as (λ p. (Some p.0, p.1)) (shared R) (λ p. P p.1) (beside shared_words w) (both same f) (both Some same)
    (back_behind (just (codes "shared")) (codes "shared") _ refl (back_optional cover_of sharers R Any left_words same cover_of sharers_back r tt (λ a m. tt) refl (λ a m. refl) refl (λ a. refl)))
    (λ a m. m.1) (λ a m. ap (λ (l : Words). l ++ w a.1) (cover_is a.0)) (λ a. refl))
    (back_as (λ a. (None, a)) R (λ p. P p.1) (beside shared_words w) (both same f) (with_none {A = Cover}) r (λ a m. m) (λ a m. refl) (λ a. refl))
shared_in_back written.Covered R {P = P} {w = w} {f = f} r = back_as (λ a. (None, a)) R (λ p. P p.1) (beside shared_words w) (both same f) (with_none {A = Cover}) r (λ a m. m) (λ a m. refl) (λ a. refl)

abbrev pub conditions_of : Place × List (List ℕ) × Option Cover → List (List ℕ) × Option Cover
conditions_of p = (p.1, p.2)

abbrev pub condition_said : Place × List (List ℕ) × Option Cover → Words
condition_said p = condition_words p.1 p.2

pub condition_back : (orientation : Orientation) → Back (condition orientation) Any condition_said conditions_of
condition_back orientation = back_as (λ p. (p.0, p.1.0, p.1.1.0)) (placed (just (codes "condition")) (seq name_list (shared_in orientation ending))) Any condition_said conditions_of (λ c. (c.0, c.1.0))
    (back_placed (just (codes "condition")) (codes "condition") _ refl (back_seq name_list _ names_back (shared_in_back orientation ending ending_back))) (λ p m. tt) (λ p m. refl) (λ p. refl)

join_end_back : Back multis.join_end Any join_end_words same
join_end_back = back_or _ _
    (back_as join_end.Env (behind (just (codes "env")) (behind (just (codes "via")) name)) Any join_end_words same join_end.Env (back_behind (just (codes "env")) (codes "env") _ refl (back_behind (just (codes "via")) (codes "via") name refl name_back)) (λ a m. tt) (λ a m. refl) (λ a. refl))
    (back_as (λ p. join_end.Reference p.0 p.1) (behind (just (codes "reference")) (seq name (behind (just (codes "via")) name))) Any join_end_words same (λ c. join_end.Reference c.0 c.1)
    (back_behind (just (codes "reference")) (codes "reference") _ refl (back_seq name _ name_back (back_behind (just (codes "via")) (codes "via") name refl name_back))) (λ a m. tt) (λ a m. refl) (λ a. refl))

join_back : Back join Any join_words unplaced_join
join_back = back_as (λ p. record { gate = p.0.0; to = p.1; place = p.0.1 }) (seq placed_name (behind (just (codes "to")) multis.join_end)) Any join_words unplaced_join (λ c. record { gate = c.0; to = c.1; place = first_place })
    (back_seq placed_name _ (back_placed_word names (but_plain [])) (back_behind (just (codes "to")) (codes "to") _ refl join_end_back)) (λ a m. tt) (λ a m. refl) (λ a. refl)

pub joins_back : Back joins Filled joins_words (map unplaced_join)
joins_back = back_so joins Filled joins_words (map unplaced_join) same (back_behind (just (codes "via")) (codes "via") _ refl (back_separated (codes ",") join refl join_back)) (λ a m. m) written (λ a. refl)
  where
    written : (js : List Join) → Filled js → joins_words js ≡ codes "via" ∷ separated_words (codes ",") join_words js
    written [] m = absurd m
    written (j ∷ js) m = refl

-- behind the colon of a declaration
abbrev pub declared_words : List (List ℕ) × Option (Place × List ℕ) → Words
declared_words d = d.0 ++ (refined_words (chart_in d.1) ++ end_words)

pub declaration_back : Back declaration Any (λ d. codes "instance" ∷ declared_words d) (both same chart_in)
declaration_back = back_behind (just (codes "instance")) (codes "instance") _ refl
    (back_as (λ p. (p.0, p.1.0)) (optional all_or_none kind (optional kept refinement ending)) Any declared_words (both same chart_in) (λ c. (c.0, c.1.0))
    (back_optional all_or_none kind (optional kept refinement ending) Any same same all_or_none kind_back
    (back_optional kept refinement ending Any (λ r. refined_words (chart_in r)) chart_in same refinement_back ending_back tt (λ a m. tt) refl (λ a m. refl) refl (λ a. refl))
    tt (λ a m. tt) refl (λ a m. refl) refl (λ a. refl))
    (λ a m. tt) (λ a m. refl) (λ a. refl))
