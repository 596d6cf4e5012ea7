-- What a level is woven to, whose messages lack a partner, and where its columns cross.
use Rattle.std.proofs.Common.{◌≡◌, ◌⊎◌, inl, inr, ℕ, ◌<◌, zero, suc, List, [], ◌∷◌, ◌++◌, Option, Some, None, All, slice_get, length, map, refl, sym, subst, ap, ap₂, ◌∙◌, arith}
use Rattle.std.proofs.lemmas.Bool.{cases_order}
use Rattle.std.proofs.lemmas.Option.{slice_get_within}
use Rattle.column_order.specs.Weaving.{IsWoven, IsCrossedAt}
use Rattle.column_order.proofs.WeavingLaws.{crossed_is_one, never_woven_and_crossed}
use Rattle.msc_base.specs.Lists.{AreDifferent, IsAmong}
use Rattle.msc_base.specs.Places.{IsLeast, earliest}
use Rattle.msc_base.specs.declared.label.Pair.{Pair}
use Rattle.msc_base.specs.declared.place.Place.{Place}
use Rattle.msc_tree.specs.Statements as tree
use Rattle.msc_meaning.specs.Bodies.{Body, EventNode, WovenItem, WovenItems, events, item_events, level}
use Rattle.msc_meaning.specs.Crossings.{ColumnsCross, crossed, inside}
use Rattle.msc_meaning.specs.LevelItems.{cover_of, entries, level_items}
use Rattle.msc_meaning.specs.LevelItems as level_item
use Rattle.msc_meaning.specs.Levels.{AreWovenItems, IsWovenItem, IsWovenLevel, an_event, a_coregion, an_inline, a_reference, no_woven, woven, woven_and}
use Rattle.msc_meaning.specs.Pairing.{ArePairs}
use Rattle.msc_meaning.specs.Partners.{LacksPartner}
use Rattle.level_weaving.proofs.LonelyLevels.{items_of, items_on}
use Rattle.level_weaving.specs.LonelyItems.{ItemsLackPartner}
use Rattle.msc_meaning.specs.Partners as partners
use Rattle.msc_meaning.specs.Pieces.{Piece, operands_of}
use Rattle.level_pieces.specs.Earliest.{earliest_of}
use Rattle.level_pieces.specs.ItemNumbers.{first_parts}
use Rattle.level_pieces.specs.ItemParts.{AreItems}
use Rattle.level_pieces.specs.PieceNumbers.{AreNumbered}
use Rattle.level_pieces.proofs.ItemLaws.{firsts_numbered, item_at}
use Rattle.level_pieces.proofs.LeastLaws.{least_of, least_same}
use Rattle.level_pieces.proofs.Walks.{all_low}
use Rattle.level_weaving.specs.Answers.{IsAnswer, ItemCrosses, ItemsCross, OptionCrosses, crossed_at}
use Rattle.level_weaving.specs.LevelNodes.{nodes_at, option_nodes, ordered_nodes, piece_nodes}
use Rattle.level_weaving.specs.LevelNumbers.{numbers_to}
use Rattle.level_weaving.specs.LevelPairs.{number_of}
use Rattle.level_weaving.specs.Messages.{IsUnmatched}
use Rattle.level_weaving.specs.WeaveFaults.{IsAloneIn, IsLevelWoven}
use Rattle.level_weaving.specs.declared.answers.Answer.{Answer}
use Rattle.level_weaving.specs.declared.answers.Answer.TheVariants as answer
use Rattle.level_weaving.proofs.NodeLaws.{ordered_different}
use Rattle.level_weaving.proofs.OneBody.{one_body}
use Rattle.level_weaving.proofs.PartnerLaws.{unmatched_numbers, unmatched_positions}

-- ---- the events of a woven list

abbrev pub parts_nodes : List Piece → List EventNode
parts_nodes [] = []
parts_nodes (p ∷ ps) = piece_nodes p

none_inline : (o : Option (List ℕ)) (n : ℕ) (head : tree.InlineHead) (inner : tree.Operands) → nodes_at o n (tree.Inline head inner) ≡ []
none_inline None n head inner = refl
none_inline (Some at) n head inner = refl

none_reference : (o : Option (List ℕ)) (n : ℕ) (r : tree.Reference) → nodes_at o n (tree.Refer r) ≡ []
none_reference None n r = refl
none_reference (Some at) n r = refl

item_nodes : {cover : List (List ℕ)} {parts : List Piece} {item : WovenItem} → IsWovenItem cover parts item → item_events item ≡ parts_nodes parts
item_nodes (an_event {p = p} f l) = sym (ap₂ (λ (o : Option (List ℕ)) (g : tree.Form). nodes_at o p.first g) l f)
item_nodes (a_coregion {p = p} f l) = sym (ap₂ (λ (o : Option (List ℕ)) (g : tree.Form). nodes_at o p.first g) l f)
item_nodes (an_inline {p = p} {head = head} {operands = inner} f h) = sym (ap (λ (g : tree.Form). nodes_at (slice_get p.leads 0) p.first g) f ∙ none_inline (slice_get p.leads 0) p.first head inner)
item_nodes (a_reference {p = p} {r = r} f) = sym (ap (λ (g : tree.Form). nodes_at (slice_get p.leads 0) p.first g) f ∙ none_reference (slice_get p.leads 0) p.first r)

first_nodes : (all : List (List Piece)) (x : ℕ) (parts : List Piece) → AreItems all → slice_get all x ≡ Some parts → option_nodes (slice_get (first_parts all) x) ≡ parts_nodes parts
first_nodes all x parts g at = let r = item_at all x parts g at in ap option_nodes r.at ∙ sym (ap parts_nodes r.is)

woven_nodes : {cover : List (List ℕ)} {all : List (List Piece)} {order : List ℕ} {held : WovenItems} → AreItems all → AreWovenItems cover all order held → events held ≡ ordered_nodes (first_parts all) order
woven_nodes g no_woven = refl
woven_nodes {all = all} g (woven_and {x = x} {parts = parts} at is others) =
    ap₂ (λ (a b : List EventNode). a ++ b) (item_nodes is ∙ sym (first_nodes all x parts g at)) (woven_nodes g others)

-- the numbers of the events of a woven list differ
pub numbers_differ : (ps : List Piece) (order : List ℕ) → AreNumbered 0 ps → AreDifferent order → AreDifferent (map number_of (ordered_nodes (first_parts (level_items ps)) order))
numbers_differ ps order numbered d = ordered_different (first_parts (level_items ps)) order (firsts_numbered ps numbered) d

-- ---- where columns cross

pub empty_uncrossed : {c : List (List ℕ)} {ps : List Piece} {place : Place} → ps ≡ [] → ColumnsCross c ps place → ⊥
empty_uncrossed {c} e (crossed x p parts k at there) =
    let at_none : slice_get (level_items []) x ≡ Some (p ∷ parts) = subst (λ (l : List Piece). slice_get (level_items l) x ≡ Some (p ∷ parts)) e at in cc
empty_uncrossed {c} e (inside x k p parts at rest) =
    let at_none : slice_get (level_items []) x ≡ Some (p ∷ parts) = subst (λ (l : List Piece). slice_get (level_items l) x ≡ Some (p ∷ parts)) e at in cc

-- an item in which columns cross
pub record HasCrossing (cover : List (List ℕ)) (all : List (List Piece)) (q : Place) : Type 0 where
  pub number : ℕ
  pub parts : List Piece
  pub at : slice_get all number ≡ Some parts
  pub crosses : ItemCrosses cover parts q

option_crossing : (cover : List (List ℕ)) (all : List (List Piece)) (x : ℕ) (q : Place) → OptionCrosses cover (slice_get all x) q → HasCrossing cover all q
option_crossing cover all x q h = by (slice_get all x) refl h
  where
    by : (o : Option (List Piece)) → slice_get all x ≡ o → OptionCrosses cover o q → HasCrossing cover all q
    by None is g = absurd g
    by (Some parts) is g = record { number = x; parts = parts; at = is; crosses = g }

has_crossing : (cover : List (List ℕ)) (all : List (List Piece)) (order : List ℕ) (q : Place) → ItemsCross cover all order q → HasCrossing cover all q
has_crossing cover all [] q h = absurd h
has_crossing cover all (x ∷ order) q (inl h) = option_crossing cover all x q h
has_crossing cover all (x ∷ order) q (inr h) = has_crossing cover all order q h

crossing_among : (cover : List (List ℕ)) (all : List (List Piece)) (order : List ℕ) (q : Place) (h : HasCrossing cover all q) → IsAmong order h.number → ItemsCross cover all order q
crossing_among cover all [] q h m = absurd m
crossing_among cover all (x ∷ order) q h (inl e) =
    inl (subst (λ (o : Option (List Piece)). OptionCrosses cover o q) (sym (subst (λ (n : ℕ). slice_get all n ≡ Some h.parts) e h.at)) h.crosses)
crossing_among cover all (x ∷ order) q h (inr m) = inr (crossing_among cover all order q h m)

crossing_inside : (cover : List (List ℕ)) (ps : List Piece) (q : Place) → HasCrossing cover (level_items ps) q → ColumnsCross cover ps q
crossing_inside cover ps q h = by h.parts h.at h.crosses
  where
    by : (parts : List Piece) → slice_get (level_items ps) h.number ≡ Some parts → ItemCrosses cover parts q → ColumnsCross cover ps q
    by [] at c = absurd c
    by (p ∷ parts) at c = inside h.number c.0 p parts at c.1

-- the level itself crosses, or an item of it does
pub record CrossesHere (cover : List (List ℕ)) (ps : List Piece) (place : Place) : Type 0 where
  pub item : ℕ
  pub piece : Piece
  pub parts : List Piece
  pub crossing : IsCrossedAt (length (level_items ps)) (level_item.columns_of (entries ps) cover) item
  pub at : slice_get (level_items ps) item ≡ Some (piece ∷ parts)
  pub there : piece.place ≡ place

crossing_of : (cover : List (List ℕ)) (ps : List Piece) (place : Place) → ColumnsCross cover ps place → CrossesHere cover ps place ⊎ HasCrossing cover (level_items ps) place
crossing_of cover ps place h = by h refl refl
  where
    by : {c : List (List ℕ)} {qs : List Piece} {q : Place} → ColumnsCross c qs q → cover ≡ c → ps ≡ qs → CrossesHere cover ps q ⊎ HasCrossing cover (level_items ps) q
    by {c} {qs} {q} (crossed x p parts k at there) n e = inl (record {
      item = x;
      piece = p;
      parts = parts;
      crossing = subst (λ (w : List (List ℕ)). IsCrossedAt (length (level_items ps)) (level_item.columns_of (entries ps) w) x) (sym n)
          (subst (λ (l : List Piece). IsCrossedAt (length (level_items l)) (level_item.columns_of (entries l) c) x) (sym e) k);
      at = subst (λ (l : List Piece). slice_get (level_items l) x ≡ Some (p ∷ parts)) (sym e) at;
      there = there;
    })
    by {c} {qs} {q} (inside x k p parts at rest) n e = inr (record {
      number = x;
      parts = p ∷ parts;
      at = subst (λ (l : List Piece). slice_get (level_items l) x ≡ Some (p ∷ parts)) (sym e) at;
      crosses = (k, subst (λ (w : List (List ℕ)). ColumnsCross (cover_of w p) (operands_of (cover_of w p) k (p ∷ parts)) q) (sym n) rest);
    })

-- ---- a level that is woven

module _ (cover : List (List ℕ)) (ps : List Piece) (order : List ℕ) (own_woven : IsWoven (length (level_items ps)) (level_item.columns_of (entries ps) cover) order) where
  whole_on : (q : Place) → ColumnsCross cover ps q → ItemsCross cover (level_items ps) order q
  whole_on q h = elim (crossing_of cover ps q h) [
    | inl here ↦ absurd (never_woven_and_crossed (length (level_items ps)) (level_item.columns_of (entries ps) cover) order here.item own_woven here.crossing)
    | inr in_item ↦ crossing_among cover (level_items ps) order q in_item (own_woven.every in_item.number (slice_get_within (level_items ps) in_item.number in_item.parts in_item.at))
  ]

  whole_of : (q : Place) → ItemsCross cover (level_items ps) order q → ColumnsCross cover ps q
  whole_of q h = crossing_inside cover ps q (has_crossing cover (level_items ps) order q h)

  pub whole_least : (b : Option Place) → IsLeast (ItemsCross cover (level_items ps) order) b → IsLeast (ColumnsCross cover ps) b
  whole_least b least = least_same (ItemsCross cover (level_items ps) order) (ColumnsCross cover ps) b whole_of whole_on least

  module _ (held : WovenItems) (pairs : List Pair) (all : AreItems (level_items ps)) (numbered : AreNumbered 0 ps) (are : AreWovenItems cover (level_items ps) order held)
      (paired : ArePairs (ordered_nodes (first_parts (level_items ps)) order) pairs) where
    own_events : events held ≡ ordered_nodes (first_parts (level_items ps)) order
    own_events = woven_nodes all are

    pub whole_woven : IsWovenLevel cover ps (level cover held pairs)
    whole_woven = woven own_woven are (subst (λ (ns : List EventNode). ArePairs ns pairs) (sym own_events) paired)

    own_on : (q : Place) → IsUnmatched (ordered_nodes (first_parts (level_items ps)) order) q ⊎ ItemsLackPartner held q → LacksPartner (level cover held pairs) q
    own_on q (inl u) = inl (subst (λ (ns : List EventNode). partners.IsUnmatched ns q) (sym own_events) (unmatched_numbers (ordered_nodes (first_parts (level_items ps)) order) q (numbers_differ ps order numbered own_woven.once) u))
    own_on q (inr h) = inr (items_on q held h)

    own_of : (q : Place) → LacksPartner (level cover held pairs) q → IsUnmatched (ordered_nodes (first_parts (level_items ps)) order) q ⊎ ItemsLackPartner held q
    own_of q (inl u) = inl (unmatched_positions (ordered_nodes (first_parts (level_items ps)) order) q (subst (λ (ns : List EventNode). partners.IsUnmatched ns q) own_events u))
    own_of q (inr h) = inr (items_of q held h)

    pub whole_lacks : (own inner : Option Place) → IsLeast (IsUnmatched (ordered_nodes (first_parts (level_items ps)) order)) own → IsLeast (ItemsLackPartner held) inner → IsLeast (LacksPartner (level cover held pairs)) (earliest_of own inner)
    whole_lacks own inner f g =
        least_same (λ q. IsUnmatched (ordered_nodes (first_parts (level_items ps)) order) q ⊎ ItemsLackPartner held q) (LacksPartner (level cover held pairs)) (earliest_of own inner) own_on own_of
        (least_of (IsUnmatched (ordered_nodes (first_parts (level_items ps)) order)) (ItemsLackPartner held) own inner f g)

-- ---- a level that is stuck

among_front : (xs : List ℕ) (n x : ℕ) → IsAmong xs x → IsAmong (xs ++ n ∷ []) x
among_front [] n x h = absurd h
among_front (y ∷ xs) n x (inl e) = inl e
among_front (y ∷ xs) n x (inr h) = inr (among_front xs n x h)

among_last : (xs : List ℕ) (n x : ℕ) → x ≡ n → IsAmong (xs ++ n ∷ []) x
among_last [] n x e = inl e
among_last (y ∷ xs) n x e = inr (among_last xs n x e)

numbers_have : (n x : ℕ) → x < n → IsAmong (numbers_to n) x
numbers_have zero x lt = absurd (omega arith)
numbers_have (suc n) x lt = elim (cases_order x n) [
  | inl e ↦ among_last (numbers_to n) n x e
  | inr order ↦ elim order [ inl below ↦ among_front (numbers_to n) n x (numbers_have n x below) | inr above ↦ absurd (omega (arith, lt, above)) ]
]

numbers_below : (n x : ℕ) → IsAmong (numbers_to n) x → x < n
numbers_below zero x h = absurd h
numbers_below (suc n) x h = by (numbers_to n) (λ m. numbers_below n x m) h
  where
    by : (xs : List ℕ) → (IsAmong xs x → x < n) → IsAmong (xs ++ n ∷ []) x → x < suc n
    by [] low (inl e) = omega (arith, e)
    by [] low (inr m) = absurd m
    by (y ∷ xs) low (inl e) = let l : x < n = low (inl e) in omega (arith, l)
    by (y ∷ xs) low (inr m) = by xs (λ k. low (inr k)) m

-- all of them are below n
pub numbers_low : (n : ℕ) → All (λ x. x < n) (numbers_to n)
numbers_low n = all_low (numbers_to n) n (λ x h. numbers_below n x h)

module _ (cover : List (List ℕ)) (ps : List Piece) (x : ℕ) (p : Piece) (others : List Piece) (stuck : IsCrossedAt (length (level_items ps)) (level_item.columns_of (entries ps) cover) x)
    (at : slice_get (level_items ps) x ≡ Some (p ∷ others)) (n : ℕ) (count : length (level_items ps) ≡ n) where
  stuck_on : (q : Place) → ItemsCross cover (level_items ps) (numbers_to n) q ⊎ (p.place ≡ q) → ColumnsCross cover ps q
  stuck_on q (inl h) = crossing_inside cover ps q (has_crossing cover (level_items ps) (numbers_to n) q h)
  stuck_on q (inr e) = crossed x p others stuck at e

  stuck_of : (q : Place) → ColumnsCross cover ps q → ItemsCross cover (level_items ps) (numbers_to n) q ⊎ (p.place ≡ q)
  stuck_of q h = elim (crossing_of cover ps q h) [
    | inl here ↦
        let one : here.item ≡ x = crossed_is_one (length (level_items ps)) (level_item.columns_of (entries ps) cover) here.item x here.crossing stuck in
        let there : slice_get (level_items ps) x ≡ Some (here.piece ∷ here.parts) = subst (λ (y : ℕ). slice_get (level_items ps) y ≡ Some (here.piece ∷ here.parts)) one here.at in
        let both : Some (p ∷ others) ≡ Some (here.piece ∷ here.parts) = sym at ∙ there in
        let same : p ≡ here.piece = cc in
        inr (ap (λ (z : Piece). z.place) same ∙ here.there)
    | inr in_item ↦
        let low : in_item.number < length (level_items ps) = slice_get_within (level_items ps) in_item.number in_item.parts in_item.at in
        inl (crossing_among cover (level_items ps) (numbers_to n) q in_item (numbers_have n in_item.number (omega (arith, low, count))))
  ]

  pub stuck_least : (b : Option Place) → IsLeast (ItemsCross cover (level_items ps) (numbers_to n)) b → IsLeast (ColumnsCross cover ps) (earliest b p.place)
  stuck_least b least =
      least_same (λ q. ItemsCross cover (level_items ps) (numbers_to n) q ⊎ (p.place ≡ q)) (ColumnsCross cover ps) (earliest b p.place) stuck_on stuck_of
      (least_of (ItemsCross cover (level_items ps) (numbers_to n)) (λ q. p.place ≡ q) b (Some p.place) least (refl, λ q e. inr e))

-- ---- answers

pub answer_least : {A : Type 0} (Is : A → Type 0) (Lacks : A → Place → Type 0) (CrossesAt : Place → Type 0) (a : Answer A) → IsAnswer Is Lacks CrossesAt a → IsLeast CrossesAt (crossed_at a)
answer_least Is Lacks CrossesAt (answer.Woven held alone) h = h.1
answer_least Is Lacks CrossesAt (answer.Crossed p) h = h

module _ (cover : List (List ℕ)) (ps : List Piece) (body : Body) (own : IsWovenLevel cover ps body) (uncrossed : (q : Place) → ColumnsCross cover ps q → ⊥) where
  alone_of : (q : Place) → IsAloneIn cover ps q → LacksPartner body q
  alone_of q a = subst (λ (b : Body). LacksPartner b q) (one_body cover ps a.body body a.woven own) a.alone

  alone_on : (q : Place) → LacksPartner body q → IsAloneIn cover ps q
  alone_on q h = record { body = body; woven = own; alone = h }

  pub level_is_woven : IsLeast (LacksPartner body) None → IsLevelWoven cover ps body
  level_is_woven least = record { uncrossed = uncrossed; matched = λ q a. least q (alone_of q a); woven = own }

  pub level_is_unmatched : (place : Place) → IsLeast (LacksPartner body) (Some place) → ((q : Place) → ColumnsCross cover ps q → ⊥) × IsLeast (IsAloneIn cover ps) (Some place)
  level_is_unmatched place least = (uncrossed, least_same (LacksPartner body) (IsAloneIn cover ps) (Some place) alone_on alone_of least)
