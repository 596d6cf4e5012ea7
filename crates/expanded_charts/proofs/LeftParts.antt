-- What is left of a level without decomposed instances, and what is shown above a refining chart.
use Rattle.std.proofs.Common.{◌≡◌, ◌∙◌, ◌++◌, ◌<◌, ◌+◌, ℕ, Bool, true, false, List, [], ◌∷◌, Option, Some, None, refl, sym, ap, subst, cond, append-nil, append_assoc, get_or, length, map, not, take}
use Rattle.std.proofs.lemmas.List.{map-append, take_more}
use Rattle.std.specs.List.{flat_map, slice_get}
use Rattle.msc_base.specs.declared.label.Pair.{Pair}
use Rattle.msc_unfolding.specs.Unfoldings.{Tag, Own, Via, On}
use Rattle.msc_meaning.specs.Bodies.{EventNode, WovenItem, WovenItems, item_and, Single, Coregion, Inline, Refer, items}
use Rattle.msc_meaning.specs.FarEnds.{Around, Gates}
use Rattle.msc_meaning.specs.Refinements.{Match, is_decomposed, left_of, past_refining, stands_for, without_decomposed}
use Rattle.msc_meaning.specs.Tables.{Refinement, Table}
use Rattle.msc_meaning.specs.Views.{item_view, node_view}
use Rattle.msc_meaning.specs.declared.body.EventNode as rust_event
use Rattle.msc_meaning.specs.declared.body.Item as rust_item
use Rattle.expansion_tree.specs.Views.{expansion_view}
use Rattle.expanded_charts.specs.Expanding.{ExpandedParts, Shown, past, past_shown}
use Rattle.expanded_charts.specs.Making.{AreMade, IsAdded, IsChanged, IsMade, event_part, events_parts, item_part, items_parts}
use Rattle.expanded_charts.specs.RefinedMaking.{AddsEvents, AddsItems}
use Rattle.expanded_charts.specs.LeftItems.{left_item, numbers_past, own_tags, pair_past, unless}
use Rattle.expanded_charts.specs.ShownGates.{gates_in, gates_view, own_numbers}
use Rattle.expanded_charts.specs.declared.made.Made.{Made}
use Rattle.expanded_charts.specs.declared.made.MadeParts.{MadeParts}
use Rattle.expanded_charts.specs.declared.numbering.Numbering.{Numbering}
use Rattle.level_surroundings.proofs.Dropped.{take_step}
use Rattle.expanded_charts.proofs.EventParts.{events_snoc, items_snoc}
use Rattle.expanded_charts.proofs.Loops.{one_more}
use Rattle.expanded_charts.proofs.ShownFacts.{gates_both, own_both}

-- ---- items

pub left_are : (rs : List Refinement) (xs : List WovenItem) → without_decomposed rs (items xs) ≡ items (flat_map (left_item rs) xs)
left_are rs [] = refl
left_are rs (Single n ∷ xs) = by (is_decomposed rs n) (left_are rs xs)
  where
    by : (b : Bool) → without_decomposed rs (items xs) ≡ items (flat_map (left_item rs) xs)
        → cond b (without_decomposed rs (items xs)) (item_and (Single n) (without_decomposed rs (items xs))) ≡ items (unless b (Single n) ++ flat_map (left_item rs) xs)
    by true h = h
    by false h = ap (λ (l : WovenItems). item_and (Single n) l) h
left_are rs (Coregion ns ∷ xs) = ap (λ (l : WovenItems). item_and (Coregion (left_of rs ns)) l) (left_are rs xs)
left_are rs (Inline form part operands ∷ xs) = ap (λ (l : WovenItems). item_and (Inline form part operands) l) (left_are rs xs)
left_are rs (Refer part ∷ xs) = ap (λ (l : WovenItems). item_and (Refer part) l) (left_are rs xs)

flat_last : {X Y : Type 0} (f : X → List Y) (xs : List X) (x : X) → flat_map f (xs ++ x ∷ []) ≡ flat_map f xs ++ f x
flat_last f [] x = append-nil (f x)
flat_last f (y ∷ xs) x = ap (λ l. f y ++ l) (flat_last f xs x) ∙ sym (append_assoc (f y) (flat_map f xs) (f x))

-- what is left of one item more
pub left_more : (rs : List Refinement) (xs : List rust_item.Item) (i : ℕ) (x : rust_item.Item) → i < length xs → x ≡ get_or xs i x
    → flat_map (left_item rs) (map item_view (take (i + 1) xs)) ≡ flat_map (left_item rs) (map item_view (take i xs)) ++ left_item rs (item_view x)
left_more rs xs i x low is =
    ap (λ (l : List rust_item.Item). flat_map (left_item rs) (map item_view l)) (take_more xs i x low ∙ ap (λ (y : rust_item.Item). take i xs ++ y ∷ []) (sym is))
    ∙ (ap (flat_map (left_item rs)) (map-append item_view (take i xs) (x ∷ [])) ∙ flat_last (left_item rs) (map item_view (take i xs)) (item_view x))

module _ (table : Table) (depth : ℕ) (l : Gates) (around : Around) (old new : Numbering) (was : MadeParts) where
  -- nothing is put behind the others
  pub adds_none : AddsItems table depth l around old old [] was was
  adds_none start n before h = subst (λ (xs : List WovenItem). AreMade start old (items_parts table depth l around n (items xs)) was) (sym (append-nil before)) h

  pub adds_one : (x : WovenItem) (made : Made) (parts : MadeParts) → IsMade old new (item_part table depth l around was.next x) made → IsAdded was made parts → AddsItems table depth l around old new (x ∷ []) was parts
  adds_one x made parts one added start n before h =
      subst (λ (ps : ExpandedParts). AreMade start new ps parts) (sym (items_snoc table depth l around n before x))
      (one_more start old new (items_parts table depth l around n (items before)) (λ k. item_part table depth l around k x) was made parts h one added)

-- ---- events

pub events_none : (l : Gates) (around : Around) (old : Numbering) (was : MadeParts) → AddsEvents l around old old [] was was
events_none l around old was table depth start n before h = subst (λ (ks : List EventNode). AreMade start old (events_parts table depth l around n ks) was) (sym (append-nil before)) h

pub events_one : (l : Gates) (around : Around) (old new : Numbering) (was : MadeParts) (k : EventNode) (made : Made) (parts : MadeParts) → IsMade old new (event_part l around was.next k) made → IsAdded was made parts → AddsEvents l around old new (k ∷ []) was parts
events_one l around old new was k made parts one added table depth start n before h =
    subst (λ (ps : ExpandedParts). AreMade start new ps parts) (sym (events_snoc table depth l around n before k))
    (one_more start old new (events_parts table depth l around n before) (λ m. event_part l around m k) was made parts h one added)

-- the event is one of a decomposed instance, or none
pub event_gone : (rs : List Refinement) (k : EventNode) → is_decomposed rs k ≡ true → left_of rs (k ∷ []) ≡ []
event_gone rs k e = ap (λ b. cond (not b) (k ∷ []) []) e

pub event_stays : (rs : List Refinement) (k : EventNode) → is_decomposed rs k ≡ false → left_of rs (k ∷ []) ≡ k ∷ []
event_stays rs k e = ap (λ b. cond (not b) (k ∷ []) []) e

left_both : (rs : List Refinement) (ks ns : List EventNode) → left_of rs (ks ++ ns) ≡ left_of rs ks ++ left_of rs ns
left_both rs [] ns = refl
left_both rs (k ∷ ks) ns = by (is_decomposed rs k) (left_both rs ks ns)
  where
    by : (b : Bool) → left_of rs (ks ++ ns) ≡ left_of rs ks ++ left_of rs ns → cond (not b) (k ∷ left_of rs (ks ++ ns)) (left_of rs (ks ++ ns)) ≡ cond (not b) (k ∷ left_of rs ks) (left_of rs ks) ++ left_of rs ns
    by true h = h
    by false h = ap (λ (l : List EventNode). k ∷ l) h

pub left_events_more : (rs : List Refinement) (ks : List rust_event.EventNode) (i : ℕ) (k : rust_event.EventNode) → i < length ks → k ≡ get_or ks i k
    → left_of rs (map node_view (take (i + 1) ks)) ≡ left_of rs (map node_view (take i ks)) ++ left_of rs (node_view k ∷ [])
left_events_more rs ks i k low is =
    ap (λ (l : List rust_event.EventNode). left_of rs (map node_view l)) (take_more ks i k low ∙ ap (λ (y : rust_event.EventNode). take i ks ++ y ∷ []) (sym is))
    ∙ (ap (left_of rs) (map-append node_view (take i ks) (k ∷ [])) ∙ left_both rs (map node_view (take i ks)) (node_view k ∷ []))

-- ---- above a refining chart

abbrev with_number : ℕ → List Tag → Shown
with_number m ts = map (λ a. (m, a)) ts

own_listed : (m : ℕ) (o : Option ℕ) → own_numbers (with_number m (own_tags o)) ≡ pair_past m o
own_listed m None = refl
own_listed m (Some k) = refl

no_gates : (m : ℕ) (o : Option ℕ) → gates_in (with_number m (own_tags o)) ≡ []
no_gates m None = refl
no_gates m (Some k) = refl

module _ (ms : List Match) (number : ℕ → Option ℕ) (stands : (d : ℕ) → own_tags (number d) ≡ stands_for ms d) where
  own_past : (sh : Shown) → own_numbers (past_shown (past_refining ms) sh) ≡ numbers_past number (own_numbers sh)
  own_past [] = refl
  own_past ((m, Own d) ∷ sh) =
      own_both (with_number m (stands_for ms d)) (past_shown (past_refining ms) sh)
      ∙ (ap (λ l. l ++ own_numbers (past_shown (past_refining ms) sh)) (ap (λ ts. own_numbers (with_number m ts)) (sym (stands d)) ∙ own_listed m (number d)) ∙ ap (λ l. pair_past m (number d) ++ l) (own_past sh))
  own_past ((m, Via g) ∷ sh) = own_past sh
  own_past ((m, On y g) ∷ sh) = own_past sh

  gates_past : (sh : Shown) → gates_in (past_shown (past_refining ms) sh) ≡ []
  gates_past [] = refl
  gates_past ((m, Own d) ∷ sh) =
      gates_both (with_number m (stands_for ms d)) (past_shown (past_refining ms) sh)
      ∙ (ap (λ l. l ++ gates_in (past_shown (past_refining ms) sh)) (ap (λ ts. gates_in (with_number m ts)) (sym (stands d)) ∙ no_gates m (number d)) ∙ gates_past sh)
  gates_past ((m, Via g) ∷ sh) = gates_past sh
  gates_past ((m, On y g) ∷ sh) = gates_past sh

  pub refining_made : (was made : Made) → made.part ≡ was.part → made.own ≡ numbers_past number was.own → gates_view made.gates.items ≡ [] → made.next ≡ was.next → IsChanged (past (past_refining ms)) was made
  refining_made was made is own gates next = λ old new e h.
      record {
        extends = h.extends;
        seen = h.seen;
        part = λ later ext. ap expansion_view is ∙ h.part later ext;
        own = own ∙ (ap (numbers_past number) h.own ∙ sym (own_past e.shown));
        gates = gates ∙ sym (gates_past e.shown);
        next = next ∙ h.next;
      }

past_last : (number : ℕ → Option ℕ) (ps : List Pair) (p : Pair) → numbers_past number (ps ++ p ∷ []) ≡ numbers_past number ps ++ pair_past p.first (number p.second)
past_last number ps p = flat_last (λ (q : Pair). pair_past q.first (number q.second)) ps p

pub past_more : (number : ℕ → Option ℕ) (ps : List Pair) (i : ℕ) (p : Pair) (old new : List Pair) → slice_get ps i ≡ Some p → old ≡ numbers_past number (take i ps) → new ≡ old ++ pair_past p.first (number p.second) → new ≡ numbers_past number (take (i + 1) ps)
past_more number ps i p old new at h put =
    put ∙ (ap (λ (l : List Pair). l ++ pair_past p.first (number p.second)) h ∙ sym (ap (numbers_past number) (take_step ps i p at) ∙ past_last number (take i ps) p))
