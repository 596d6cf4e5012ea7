-- In a chart that breaks no rule on what is created, no event creates the instance at which it stands.
use Rattle.std.proofs.Common.{◌≡◌, inl, ◌||◌, ◌&&◌, Bool, true, false, List, [], ◌∷◌, ℕ, refl}
use Rattle.std.specs.List.{list_any}
use Rattle.std.specs.Str.{bytes_eq}
use Rattle.chart_text.specs.Gathering.{place_if}
use Rattle.chart_text.specs.Texts.{Passage, a_head, a_statement, an_item, an_operand, Side, own_scope, chart_text}
use Rattle.chart_text.specs.WellFormed.{Each}
use Rattle.creation_rules.specs.Creating.{ChartCreatesTwice, barred_creations, barred_event, barred_events, barred_item, barred_passage, chart_barred, decomposed, event_creates, is_barred, is_creator, passage_creates}
use Rattle.creation_rules.specs.Placing.{is_creation}
use Rattle.list_facts.proofs.Joining.{left_nil, right_nil}
use Rattle.msc_base.specs.Lists.{IsAmong}
use Rattle.msc_base.specs.declared.place.Place.{Place}
use Rattle.msc_tree.specs.Charts.{Chart}
use Rattle.msc_tree.specs.Directions.{far_name}
use Rattle.msc_tree.specs.Statements.{Form, Single, Coregion, Condition, Inline, Refer, Stop}
use Rattle.msc_tree.specs.declared.event.RawEvent.{RawEvent}

-- where the event creates, another instance
abbrev pub IsApartEvent : Side → RawEvent → Type 0
IsApartEvent side e = is_creation e.kind ≡ true → is_creator (own_scope side) (far_name e.target) ≡ false

abbrev pub AreApartEvents : Side → List RawEvent → Type 0
AreApartEvents side [] = Unit {0}
AreApartEvents side (e ∷ es) = IsApartEvent side e × AreApartEvents side es

abbrev pub IsApartForm : Side → Form → Type 0
IsApartForm side (Single e) = IsApartEvent side e
IsApartForm side (Coregion es) = AreApartEvents side es
IsApartForm side (Condition names shared) = Unit {0}
IsApartForm side (Inline head held) = Unit {0}
IsApartForm side (Refer r) = Unit {0}
IsApartForm side Stop = Unit {0}

-- so do the events of the passage
abbrev pub IsApart : Passage → Type 0
IsApart (a_head decl) = Unit {0}
IsApart (a_statement depth scope x) = Unit {0}
IsApart (an_item s place f) = IsApartForm s.side f
IsApart (an_operand s x) = Unit {0}

none_among : {A : Type 0} (xs : List A) → ((x : A) → IsAmong xs x → ⊥) → xs ≡ []
none_among [] none = refl
none_among (x ∷ xs) none = absurd (none x (inl refl))

third_false : (a b c : Bool) → (a || (b || c)) ≡ false → c ≡ false
third_false false false false h = refl
third_false false false true h = absurd cc
third_false false true c h = absurd cc
third_false true b c h = absurd cc

never_both : (a b : Bool) (place : Place) → place_if (a && b) place ≡ [] → a ≡ true → b ≡ false
never_both true false place h e = refl
never_both true true place h e = absurd cc
never_both false b place h e = absurd cc

event_apart : (refined before : List (List ℕ)) (side : Side) (e : RawEvent) → barred_event refined before side e ≡ [] → IsApartEvent side e
event_apart refined before side e none creates =
    let child = far_name e.target in
    third_false (list_any (bytes_eq child) before) (list_any (bytes_eq child) refined) (is_creator (own_scope side) child) (never_both (is_creation e.kind) (is_barred refined before side child) e.place none creates)

events_apart : (refined before : List (List ℕ)) (side : Side) (es : List RawEvent) → barred_events refined before side es ≡ [] → AreApartEvents side es
events_apart refined before side [] none = tt
events_apart refined before side (e ∷ es) none =
    let own = barred_event refined before side e in
    let others = barred_events refined (event_creates before e) side es in
    (event_apart refined before side e (left_nil own others none), events_apart refined (event_creates before e) side es (right_nil own others none))

form_apart : (refined before : List (List ℕ)) (side : Side) (f : Form) → barred_item refined before side f ≡ [] → IsApartForm side f
form_apart refined before side (Single e) none = event_apart refined before side e none
form_apart refined before side (Coregion es) none = events_apart refined before side es none
form_apart refined before side (Condition names shared) none = tt
form_apart refined before side (Inline head held) none = tt
form_apart refined before side (Refer r) none = tt
form_apart refined before side Stop none = tt

passage_apart : (refined before : List (List ℕ)) (p : Passage) → barred_passage refined before p ≡ [] → IsApart p
passage_apart refined before (a_head decl) none = tt
passage_apart refined before (a_statement depth scope x) none = tt
passage_apart refined before (an_item s place f) none = form_apart refined before s.side f none
passage_apart refined before (an_operand s x) none = tt

text_apart : (refined before : List (List ℕ)) (text : List Passage) → barred_creations refined before text ≡ [] → Each IsApart text
text_apart refined before [] none = tt
text_apart refined before (p ∷ text) none =
    let own = barred_passage refined before p in
    let others = barred_creations refined (passage_creates before p) text in
    (passage_apart refined before p (left_nil own others none), text_apart refined (passage_creates before p) text (right_nil own others none))

pub chart_apart : (c : Chart) → ((p : Place) → ChartCreatesTwice c p → ⊥) → Each IsApart (chart_text c)
chart_apart c none = text_apart (decomposed c) [] (chart_text c) (none_among (chart_barred c) none)
