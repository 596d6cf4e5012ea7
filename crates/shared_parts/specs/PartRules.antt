-- The rules on the parts of items: parts that their columns don't share, and parts of one name that differ.
use Rattle.std.specs.Prelude.{◌≡◌, ⊤, ℕ, List, [], ◌∷◌, Some, None, slice_get}
use Rattle.msc_base.specs.Lists.{IsAmong}
use Rattle.msc_base.specs.declared.place.Place.{Place}
use Rattle.msc_instances.specs.Instances.{instances}
use Rattle.msc_meaning.specs.LevelItems.{cover_of, level_items, name_of}
use Rattle.msc_meaning.specs.Levels.{operand_number}
use Rattle.msc_meaning.specs.Pieces.{Piece, operands_of, statements_pieces}
use Rattle.msc_tree.specs.Charts.{Basic, Chart, Content, HighLevel}
use Rattle.msc_tree.specs.Statements.{Form, Inline, InlineHead, Operands, Refer, Reference, statements}
use Rattle.msc_tree.specs.declared.reference.Join.{Join}
use Rattle.shared_parts.specs.declared.faults.PartRule.{PartRule}
use Rattle.shared_parts.specs.declared.faults.PartRule.TheVariants.{NotShared, OperandsDiffer}

-- ---- parts that aren't shared

-- of the instances of a level the list of a part has those that it covers, in the order of the level: so lists that have the same
-- instances are the same

-- one of the parts stands in that column, and has that list
pub data HasPart (cover : List (List ℕ)) (column : List ℕ) (names : List (List ℕ)) : List Piece → Type 0 where
  stands_first : {p : Piece} {ps : List Piece} → p.column ≡ Some column → cover_of cover p ≡ names → HasPart cover column names (p ∷ ps)
  stands_later : {p : Piece} {ps : List Piece} → HasPart cover column names ps → HasPart cover column names (p ∷ ps)

-- a part of an item of these parts isn't shared: it stands in a column that its own list lacks; or its list has a column that has no part
-- with the same list; or it has another list than another part; or it has no name, and a list of several instances
pub data IsUnshared (cover : List (List ℕ)) (parts : List Piece) (p : Piece) : Type 0 where
  lacks_own : (column : List ℕ) → p.column ≡ Some column → (IsAmong (cover_of cover p) column → ⊥) → IsUnshared cover parts p
  lacks_part : (column other : List ℕ) → p.column ≡ Some column → IsAmong (cover_of cover p) other → (HasPart cover other (cover_of cover p) parts → ⊥) → IsUnshared cover parts p
  differs : (column : List ℕ) (q : Piece) → p.column ≡ Some column → IsAmong parts q → (cover_of cover q ≡ cover_of cover p → ⊥) → IsUnshared cover parts p
  unnamed : (column one other : List ℕ) (names : List (List ℕ)) → p.column ≡ Some column → name_of p.form ≡ None → cover_of cover p ≡ one ∷ other ∷ names → IsUnshared cover parts p

-- ---- parts that differ

-- the same gates are joined with the same, in the same order
abbrev pub AreAlikeJoins : List Join → List Join → Type 0
AreAlikeJoins [] [] = ⊤
AreAlikeJoins [] (k ∷ ks) = ⊥
AreAlikeJoins (j ∷ js) [] = ⊥
AreAlikeJoins (j ∷ js) (k ∷ ks) = (j.gate ≡ k.gate) × (j.to ≡ k.to) × AreAlikeJoins js ks

-- inline expressions of the same form, bounds and number of operands, or references of the same expression and joins
pub data AreAlike : Form → Form → Type 0 where
  inlines : {head other : InlineHead} {held others : Operands} → head.form ≡ other.form → head.lower ≡ other.lower → head.upper ≡ other.upper
      → operand_number held ≡ operand_number others → AreAlike (Inline head held) (Inline other others)
  references : {reference other : Reference} → reference.expression ≡ other.expression → AreAlikeJoins reference.joins other.joins → AreAlike (Refer reference) (Refer other)

-- a part of an item differs from the first one
abbrev pub IsUnlike : List Piece → Piece → Type 0
IsUnlike [] p = ⊥
IsUnlike (first ∷ others) p = IsAmong others p × (AreAlike first.form p.form → ⊥)

-- ---- both rules

-- a part of an item of these parts breaks the rule
abbrev pub IsBroken : PartRule → List (List ℕ) → List Piece → Piece → Type 0
IsBroken NotShared cover parts p = IsUnshared cover parts p
IsBroken OperandsDiffer cover parts p = IsUnlike parts p

-- at that place a part of an item breaks the rule, on a level that covers these instances, or on one inside it
pub data BreaksPartRule (rule : PartRule) : List (List ℕ) → List Piece → Place → Type 0 where
  here : {cover : List (List ℕ)} {ps : List Piece} {place : Place} (x : ℕ) (parts : List Piece) (p : Piece)
      → slice_get (level_items ps) x ≡ Some parts → IsAmong parts p → IsBroken rule cover parts p → p.place ≡ place → BreaksPartRule rule cover ps place
  inside : {cover : List (List ℕ)} {ps : List Piece} {place : Place} (x k : ℕ) (p : Piece) (parts : List Piece)
      → slice_get (level_items ps) x ≡ Some (p ∷ parts) → BreaksPartRule rule (cover_of cover p) (operands_of (cover_of cover p) k (p ∷ parts)) place
      → BreaksPartRule rule cover ps place

abbrev pub ContentBreaksPartRule : PartRule → List (List ℕ) → Content → Place → Type 0
ContentBreaksPartRule rule names (Basic held) place = BreaksPartRule rule names (statements_pieces names 0 (statements held)) place
ContentBreaksPartRule rule names (HighLevel drawn) place = ⊥

-- of a chart
abbrev pub ChartBreaksPartRule : PartRule → Chart → Place → Type 0
ChartBreaksPartRule rule chart place = ContentBreaksPartRule rule (instances chart) chart.content place
