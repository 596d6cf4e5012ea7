-- A level as it is gathered from its pieces, whatever rules it breaks: parts of one name in its columns are one item, items stand in the
-- order of the text, and nothing is said of messages. The first part says what an item is.
use Rattle.std.specs.Prelude.{◌≡◌, ℕ, zero, suc, Bool, true, false, List, [], ◌∷◌, ◌++◌}
use Rattle.std.specs.List.{flat_map}
use Rattle.msc_tree.specs.Statements.{Form, InlineHead, Reference, Operands, Single, Coregion, Condition, Refer, Stop}
use Rattle.msc_tree.specs.Statements as tree
use Rattle.msc_meaning.specs.Bodies.{Body, level, WovenItem, Inline, Bodies, no_bodies, body_and}
use Rattle.msc_meaning.specs.Bodies as body
use Rattle.msc_meaning.specs.LevelItems.{level_items, cover_of}
use Rattle.msc_meaning.specs.Levels.{IsWovenItem, operand_number}
use Rattle.msc_meaning.specs.Pieces.{Piece, operands_of}

abbrev pub form_references : Form → List Reference
form_references (Refer r) = r ∷ []
form_references (Single e) = []
form_references (Coregion es) = []
form_references (Condition names shared) = []
form_references (tree.Inline head held) = []
form_references Stop = []

-- the references of a level, each part by itself, in the order of the text
abbrev pub references_of : List Piece → List Reference
references_of ps = flat_map (λ p. form_references p.form) ps

abbrev pub is_inline : Form → Bool
is_inline (tree.Inline head held) = true
is_inline (Single e) = false
is_inline (Coregion es) = false
is_inline (Condition names shared) = false
is_inline (Refer r) = false
is_inline Stop = false

mutual
  -- the pieces of a level that covers these instances are gathered to the body; with the references of each of its levels, its own first,
  -- then those of its operands
  pub data IsGatheredLevel : List (List ℕ) → List Piece → Body → List (List Reference) → Type 0 where
    gathered : {cover : List (List ℕ)} {ps : List Piece} {held : body.WovenItems} {inner : List (List Reference)}
        → AreGatheredItems cover (level_items ps) held inner → IsGatheredLevel cover ps (level cover held []) (references_of ps ∷ inner)

  -- the items, each by its parts
  pub data AreGatheredItems : List (List ℕ) → List (List Piece) → body.WovenItems → List (List Reference) → Type 0 where
    none_gathered : {cover : List (List ℕ)} → AreGatheredItems cover [] body.no_items []
    gathered_and : {cover : List (List ℕ)} {parts : List Piece} {all : List (List Piece)} {item : WovenItem} {held : body.WovenItems} {own behind : List (List Reference)}
        → IsGatheredItem cover parts item own → AreGatheredItems cover all held behind → AreGatheredItems cover (parts ∷ all) (body.item_and item held) (own ++ behind)

  -- an item, by its parts
  pub data IsGatheredItem : List (List ℕ) → List Piece → WovenItem → List (List Reference) → Type 0 where
    -- an event, a coregion or a reference, as it is woven
    as_woven : {cover : List (List ℕ)} {p : Piece} {ps : List Piece} {item : WovenItem} → is_inline p.form ≡ false → IsWovenItem cover (p ∷ ps) item → IsGatheredItem cover (p ∷ ps) item []
    an_inline : {cover : List (List ℕ)} {p : Piece} {ps : List Piece} {head : InlineHead} {operands : Operands} {held : Bodies} {inner : List (List Reference)}
        → p.form ≡ tree.Inline head operands → AreGatheredOperands (cover_of cover p) (p ∷ ps) 0 (operand_number operands) held inner
        → IsGatheredItem cover (p ∷ ps) (Inline head.form (record { lower = head.lower; upper = head.upper; name = head.name; cover = cover_of cover p; place = p.place }) held) inner

  -- so many operands of an item, from the k-th on
  pub data AreGatheredOperands : List (List ℕ) → List Piece → ℕ → ℕ → Bodies → List (List Reference) → Type 0 where
    no_gathered_operand : {cover : List (List ℕ)} {parts : List Piece} {k : ℕ} → AreGatheredOperands cover parts k zero no_bodies []
    gathered_operand_and : {cover : List (List ℕ)} {parts : List Piece} {k n : ℕ} {body : Body} {others : Bodies} {own behind : List (List Reference)}
        → IsGatheredLevel cover (operands_of cover k parts) body own → AreGatheredOperands cover parts (suc k) n others behind
        → AreGatheredOperands cover parts k (suc n) (body_and body others) (own ++ behind)
