-- The events of a woven body have different numbers, at any depth.
use Rattle.std.proofs.Common.{◌≡◌, ℕ, suc, ◌≤◌, ◌<◌, ◌+◌, inl, inr, List, [], ◌∷◌, length, Some, slice_get, refl, sym, subst, arith}
use Rattle.msc_base.specs.Lists.{AreDifferent, IsAmong}
use Rattle.msc_base.specs.Orders.{Among, Once}
use Rattle.msc_tree.specs.declared.event.RawEvent.{RawEvent}
use Rattle.msc_tree.specs.Statements.{Form}
use Rattle.msc_meaning.specs.Bodies.{EventNode, Body, WovenItems, WovenItem, Bodies}
use Rattle.msc_meaning.specs.LevelItems.{level_items}
use Rattle.msc_meaning.specs.Levels.{AreWovenItems, AreWovenOperands, IsWovenItem, IsWovenLevel, a_coregion, a_reference, an_event, an_inline, no_woven, no_woven_operand, nodes_from, woven, woven_and, woven_operand_and}
use Rattle.msc_meaning.specs.Pieces.{Piece, form_count, operands_of, statements_count}
use Rattle.chart_forms.specs.BodyEvents.{events_within, item_within, items_within, operands_within}
use Rattle.level_pieces.proofs.NumberedPieces.{ArePlaced, statements_placed}
use Rattle.woven_laws.specs.NumberLaws.{WovenNumbersDiffer}
use Rattle.woven_laws.proofs.ItemRegions.{AreLevelItems, items_of_level}
use Rattle.woven_laws.proofs.OperandRegions.{FromOperand, InOperand, from_has, here_from, in_operand, later_from, operands_apart, parts_placed}
use Rattle.woven_laws.proofs.Regions.{Differ, Has, differ_as, differ_more, differ_none, differ_on, numbers, numbers_are, numbers_more, numbers_none}

-- the events of a coregion
nodes_differ : (n : ℕ) (at : List ℕ) (es : List RawEvent) → Differ (λ k. (n ≤ k) × (k < n + length es)) (numbers (nodes_from n at es))
nodes_differ n at [] = subst (Differ (λ k. (n ≤ k) × (k < n + 0))) (sym numbers_none) (differ_none (λ k. (n ≤ k) × (k < n + 0)))
nodes_differ n at (e ∷ es) =
    let rest = nodes_differ (suc n) at es in
    subst (Differ (λ k. (n ≤ k) × (k < n + length (e ∷ es)))) (sym (numbers_more (record { number = n; at = at; event = e }) (nodes_from (suc n) at es)))
    (differ_more (λ k. (n ≤ k) × (k < n + length (e ∷ es))) n (numbers (nodes_from (suc n) at es)) (omega arith, omega arith) (λ h. let low = (rest.within n h).0 in omega (arith, low))
    (differ_as (λ k. (suc n ≤ k) × (k < suc n + length es)) (λ k. (n ≤ k) × (k < n + length (e ∷ es))) (numbers (nodes_from (suc n) at es)) (λ k h. (omega (arith, h.0), omega (arith, h.1))) rest))

one_differs : (n : EventNode) (p : Piece) → n.number ≡ p.first → form_count p.form ≡ 1 → Differ (λ k. Has k (p ∷ [])) (numbers (n ∷ []))
one_differs n p is one =
    subst (Differ (λ k. Has k (p ∷ []))) (sym (numbers_more n []))
    (differ_more (λ k. Has k (p ∷ [])) n.number (numbers []) (inl (omega (arith, is), omega (arith, is, one))) (λ h. elim (subst (Among n.number) numbers_none h) [ ])
    (subst (Differ (λ k. Has k (p ∷ []))) (sym numbers_none) (differ_none (λ k. Has k (p ∷ [])))))

-- one of the items of these numbers has it
record HasSome (all : List (List Piece)) (order : List ℕ) (k : ℕ) : Type 0 where
  item : ℕ
  parts : List Piece
  among : IsAmong order item
  at : slice_get all item ≡ Some parts
  has : Has k parts

mutual
  body_differs : {cover : List (List ℕ)} {ps : List Piece} (n m : ℕ) (b : Body) → ArePlaced n m ps → IsWovenLevel cover ps b → Differ (λ k. Has k ps) (numbers (events_within b))
  body_differs {ps = ps} n m _ w (woven {order = order} {held = held} o h p) =
      let known = items_of_level n m ps w in
      differ_as (HasSome (level_items ps) order) (λ k. Has k ps) (numbers (items_within held)) (λ k s. known.within k s.item s.parts s.at s.has) (items_differ m ps (level_items ps) held known o.once h)

  items_differ : {cover : List (List ℕ)} {order : List ℕ} (m : ℕ) (ps : List Piece) (all : List (List Piece)) (xs : WovenItems) → AreLevelItems m ps all → AreDifferent order → AreWovenItems cover all order xs → Differ (HasSome all order) (numbers (items_within xs))
  items_differ m ps all _ known d (no_woven) = subst (Differ (HasSome all [])) (sym numbers_none) (differ_none (HasSome all []))
  items_differ m ps all _ known d (woven_and {x = i} {order = order} {parts = parts} {item = x} {held = xs} at h k) =
      differ_on (λ j. Has j parts) (HasSome all order) (HasSome all (i ∷ order)) (item_within x) (items_within xs)
      (item_differs 0 m x (known.placed i parts at) h) (items_differ m ps all xs known d.1 k)
      (λ j a. record { item = i; parts = parts; among = inl refl; at = at; has = a })
      (λ j s. record { item = s.item; parts = s.parts; among = inr s.among; at = s.at; has = s.has })
      (λ j a s. d.0 (subst (IsAmong order) (sym (known.apart j i s.item parts s.parts at s.at a s.has)) s.among))

  item_differs : {cover : List (List ℕ)} {parts : List Piece} (n m : ℕ) (x : WovenItem) → ArePlaced n m parts → IsWovenItem cover parts x → Differ (λ k. Has k parts) (numbers (item_within x))
  item_differs n m _ w (an_event {p = p} {at = at} {e = e} is here) = one_differs (record { number = p.first; at = at; event = e }) p refl (subst (λ (f : Form). form_count f ≡ 1) (sym is) refl)
  item_differs n m _ w (a_coregion {p = p} {at = at} {es = es} is here) =
      let many : form_count p.form ≡ length es = subst (λ (f : Form). form_count f ≡ length es) (sym is) refl in
      differ_as (λ k. (p.first ≤ k) × (k < p.first + length es)) (λ k. Has k (p ∷ [])) (numbers (nodes_from p.first at es)) (λ k h. inl (h.0, omega (arith, h.1, many))) (nodes_differ p.first at es)
  item_differs n m _ w (an_inline {p = p} {ps = ps} {held = held} is h) =
      differ_as (λ k. FromOperand 0 k (p ∷ ps)) (λ k. Has k (p ∷ ps)) (numbers (operands_within held)) (λ k f. from_has 0 k (p ∷ ps) f) (operands_differ n m held w h)
  item_differs n m _ w (a_reference {p = p} {ps = ps} is) = subst (Differ (λ k. Has k (p ∷ ps))) (sym numbers_none) (differ_none (λ k. Has k (p ∷ ps)))

  operands_differ : {cover : List (List ℕ)} {parts : List Piece} {k count : ℕ} (n m : ℕ) (bs : Bodies) → ArePlaced n m parts → AreWovenOperands cover parts k count bs → Differ (λ x. FromOperand k x parts) (numbers (operands_within bs))
  operands_differ n m _ w (no_woven_operand {parts = parts} {k = k}) = subst (Differ (λ x. FromOperand k x parts)) (sym numbers_none) (differ_none (λ x. FromOperand k x parts))
  operands_differ n m _ w (woven_operand_and {cover = cover} {parts = parts} {k = k} {body = b} {others = bs} h g) =
      differ_on (λ x. InOperand k x parts) (λ x. FromOperand (suc k) x parts) (λ x. FromOperand k x parts) (events_within b) (operands_within bs)
      (differ_as (λ x. Has x (operands_of cover k parts)) (λ x. InOperand k x parts) (numbers (events_within b)) (λ x a. in_operand cover k x parts a) (body_differs n m b (parts_placed cover k n m parts w) h))
      (operands_differ n m bs w g)
      (λ x a. here_from k x parts a) (λ x a. later_from k x parts a) (λ x a c. operands_apart k x n m parts w a c)

pub woven_numbers_differ : WovenNumbersDiffer
woven_numbers_differ names n held b h = subst Once (numbers_are (events_within b)) (body_differs n (n + statements_count held) b (statements_placed names n held) h).once
