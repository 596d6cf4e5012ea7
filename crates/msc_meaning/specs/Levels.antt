-- The body that a level is woven to: its items in the order of the woven list, its operands woven in turn, and its message pairs.
use Rattle.std.specs.Prelude.{◌≡◌, ℕ, zero, suc, List, [], ◌∷◌, length, Some, slice_get}
use Rattle.column_order.specs.Weaving.{IsWoven}
use Rattle.msc_base.specs.declared.label.Pair.{Pair}
use Rattle.msc_tree.specs.declared.event.RawEvent.{RawEvent}
use Rattle.msc_tree.specs.Statements.{InlineHead, Reference, Operands, no_operands, operand_and}
use Rattle.msc_tree.specs.Statements as tree
use Rattle.msc_meaning.specs.Bodies.{EventNode, Body, level, WovenItem, Single, Coregion, Inline, Refer, Bodies, no_bodies, body_and, events}
use Rattle.msc_meaning.specs.Bodies as body
use Rattle.msc_meaning.specs.LevelItems.{level_items, entries, columns_of, cover_of}
use Rattle.msc_meaning.specs.Pairing.{ArePairs}
use Rattle.msc_meaning.specs.Pieces.{Piece, operands_of}

abbrev pub nodes_from : ℕ → List ℕ → List RawEvent → List EventNode
nodes_from n at [] = []
nodes_from n at (e ∷ es) = record { number = n; at = at; event = e } ∷ nodes_from (suc n) at es

abbrev pub operand_number : Operands → ℕ
operand_number no_operands = zero
operand_number (operand_and x xs) = suc (operand_number xs)

mutual
  -- the pieces of a level that covers these instances are woven to the body
  pub data IsWovenLevel : List (List ℕ) → List Piece → Body → Type 0 where
    woven : {cover : List (List ℕ)} {ps : List Piece} {order : List ℕ} {held : body.WovenItems} {pairs : List Pair}
        → IsWoven (length (level_items ps)) (columns_of (entries ps) cover) order → AreWovenItems cover (level_items ps) order held → ArePairs (events held) pairs
        → IsWovenLevel cover ps (level cover held pairs)

  -- the items of these numbers
  pub data AreWovenItems : List (List ℕ) → List (List Piece) → List ℕ → body.WovenItems → Type 0 where
    no_woven : {cover : List (List ℕ)} {all : List (List Piece)} → AreWovenItems cover all [] body.no_items
    woven_and : {cover : List (List ℕ)} {all : List (List Piece)} {x : ℕ} {order : List ℕ} {parts : List Piece} {item : WovenItem} {held : body.WovenItems}
        → slice_get all x ≡ Some parts → IsWovenItem cover parts item → AreWovenItems cover all order held
        → AreWovenItems cover all (x ∷ order) (body.item_and item held)

  -- an item, by its parts
  pub data IsWovenItem : List (List ℕ) → List Piece → WovenItem → Type 0 where
    an_event : {cover : List (List ℕ)} {p : Piece} {at : List ℕ} {e : RawEvent}
        → p.form ≡ tree.Single e → slice_get p.leads 0 ≡ Some at → IsWovenItem cover (p ∷ []) (Single (record { number = p.first; at = at; event = e }))
    a_coregion : {cover : List (List ℕ)} {p : Piece} {at : List ℕ} {es : List RawEvent}
        → p.form ≡ tree.Coregion es → slice_get p.leads 0 ≡ Some at → IsWovenItem cover (p ∷ []) (Coregion (nodes_from p.first at es))
    an_inline : {cover : List (List ℕ)} {p : Piece} {ps : List Piece} {head : InlineHead} {operands : Operands} {held : Bodies}
        → p.form ≡ tree.Inline head operands → AreWovenOperands (cover_of cover p) (p ∷ ps) 0 (operand_number operands) held
        → IsWovenItem cover (p ∷ ps) (Inline head.form (record { lower = head.lower; upper = head.upper; name = head.name; cover = cover_of cover p; place = p.place }) held)
    a_reference : {cover : List (List ℕ)} {p : Piece} {ps : List Piece} {r : Reference}
        → p.form ≡ tree.Refer r
        → IsWovenItem cover (p ∷ ps) (Refer (record { name = r.name; expression = r.expression; joins = r.joins; cover = cover_of cover p; place = p.place }))

  -- so many operands of an item, from the k-th on
  pub data AreWovenOperands : List (List ℕ) → List Piece → ℕ → ℕ → Bodies → Type 0 where
    no_woven_operand : {cover : List (List ℕ)} {parts : List Piece} {k : ℕ} → AreWovenOperands cover parts k zero no_bodies
    woven_operand_and : {cover : List (List ℕ)} {parts : List Piece} {k n : ℕ} {body : Body} {others : Bodies}
        → IsWovenLevel cover (operands_of cover k parts) body → AreWovenOperands cover parts (suc k) n others
        → AreWovenOperands cover parts k (suc n) (body_and body others)
