-- Items that are an event or a coregion.
use Rattle.std.proofs.Common.{◌≡◌, ℕ, true, List, [], ◌∷◌, ◌++◌, refl, sym, ap, ◌∙◌}
use Rattle.msc_base.specs.declared.place.Place.{Place}
use Rattle.level_pieces.proofs.NoOperands.{no_operand, no_name}
use Rattle.msc_tree.specs.Statements.{Form, Single, Coregion, Condition, Inline, Refer, Stop}
use Rattle.msc_meaning.specs.Bodies.{WovenItem}
use Rattle.msc_meaning.specs.LevelItems.{cover_of}
use Rattle.msc_meaning.specs.Levels.{IsWovenItem, an_event, a_coregion, an_inline, a_reference}
use Rattle.level_weaving.specs.LonelyItems.{ItemLacksPartner}
use Rattle.msc_meaning.specs.Pieces.{Piece}
use Rattle.level_pieces.specs.ItemParts.{AreParts, has_events}
use Rattle.chart_text.specs.Texts.{Side, behind}
use Rattle.chart_text.proofs.StandingLaws.{left_test}
use Rattle.chart_text.specs.WellFormed.{are_well_formed_events, is_at_one, is_well_formed_event, is_well_formed_item}
use Rattle.level_weaving.specs.Answers.{ItemCrosses}
use Rattle.level_weaving.proofs.LevelLaws.{empty_uncrossed}

at_one_form : (side : Side) (f : Form) → is_well_formed_item side f ≡ true → has_events f ≡ true → is_at_one side ≡ true
at_one_form side (Single e) h is = left_test (is_at_one side) (is_well_formed_event e) h
at_one_form side (Coregion es) h is = left_test (is_at_one side) (are_well_formed_events es) h
at_one_form side (Condition names shared) h is = cc
at_one_form side (Inline head held) h is = cc
at_one_form side (Refer r) h is = cc
at_one_form side Stop h is = cc

-- it stands at one instance
pub event_at_one : (p : Piece) (others : List Piece) → AreParts (p ∷ others) → has_events p.form ≡ true → is_at_one (behind p.leads) ≡ true
event_at_one p others are is = at_one_form (behind p.leads) p.form are.2.0.0 is

event_uncrossed : (level : List (List ℕ)) (p : Piece) (q : Place) → has_events p.form ≡ true → ItemCrosses level (p ∷ []) q → ⊥
event_uncrossed level p q is h = empty_uncrossed (ap (λ (l : List Piece). l ++ []) (no_operand (cover_of level p) h.0 p p.form is)) h.1

event_matched : {level : List (List ℕ)} {parts : List Piece} {item : WovenItem} (p : Piece) (q : Place) → parts ≡ p ∷ [] → has_events p.form ≡ true → IsWovenItem level parts item → ItemLacksPartner item q → ⊥
event_matched p q e is (an_event f l) h = h
event_matched p q e is (a_coregion f l) h = h
event_matched p q e is (an_inline {p = r} {head = head} {operands = held} f l) h =
    let same : r ≡ p = cc in
    let bad : has_events (Inline head held) ≡ true = sym (ap has_events (sym (ap (λ (z : Piece). z.form) same) ∙ f)) ∙ is in cc
event_matched p q e is (a_reference f) h = h

-- it has one part, and nothing stands inside it
pub record IsEventItem (level : List (List ℕ)) (parts : List Piece) (item : WovenItem) : Type 0 where
  pub woven : IsWovenItem level parts item
  pub uncrossed : (q : Place) → ItemCrosses level parts q → ⊥
  pub matched : (q : Place) → ItemLacksPartner item q → ⊥

pub event_is : (level : List (List ℕ)) (p : Piece) (others : List Piece) (item : WovenItem) → AreParts (p ∷ others) → has_events p.form ≡ true → IsWovenItem level (p ∷ []) item → IsEventItem level (p ∷ others) item
event_is level p [] item are is w = record { woven = w; uncrossed = λ q h. event_uncrossed level p q is h; matched = λ q h. event_matched p q refl is w h }
event_is level p (r ∷ others) item are is w = absurd (are.1 (no_name p.form is))
