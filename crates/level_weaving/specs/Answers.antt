-- Serves private contracts alone.
-- What a level, an item or several of them are woven to, as the code answers it.
use Rattle.std.specs.Prelude.{◌≡◌, ◌⊎◌, ⊤, ℕ, List, [], ◌∷◌, ◌++◌, map, Option, Some, None, slice_get, Vec}
use Rattle.std.specs.Global.{Global}
use Rattle.level_pieces.specs.Earliest.{earliest_of}
use Rattle.level_pieces.specs.PieceNumbers.{AreNumbered}
use Rattle.level_pieces.specs.FormedPieces.{AreFormed}
use Rattle.level_weaving.specs.declared.answers.Answer.{Answer}
use Rattle.level_weaving.specs.declared.answers.Answer.TheVariants.{Woven, Crossed}
use Rattle.level_weaving.specs.declared.answers.Gathered.{Gathered}
use Rattle.msc_base.specs.Places.{IsLeast, earliest}
use Rattle.msc_base.specs.declared.place.Place.{Place}
use Rattle.msc_meaning.specs.Bodies.{Body, bodies, items}
use Rattle.msc_meaning.specs.Crossings.{ColumnsCross}
use Rattle.msc_meaning.specs.LevelItems.{cover_of}
use Rattle.msc_meaning.specs.Levels.{AreWovenItems, IsWovenItem, IsWovenLevel}
use Rattle.msc_meaning.specs.Partners.{LacksPartner}
use Rattle.level_weaving.specs.LonelyItems.{ItemLacksPartner, ItemsLackPartner, OneLacksPartner}
use Rattle.msc_meaning.specs.Pieces.{Piece, operands_of}
use Rattle.msc_meaning.specs.Views.{body_view, item_view}
use Rattle.msc_meaning.specs.declared.body.Body as code_body
use Rattle.msc_meaning.specs.declared.body.Item as code_item

-- ---- answers

-- it is what something is woven to, nothing crosses, and that is the earliest place at which it lacks a partner; or the earliest at
-- which something crosses
abbrev pub IsAnswer : {A : Type 0} → (A → Type 0) → (A → Place → Type 0) → (Place → Type 0) → Answer A → Type 0
IsAnswer Is Lacks CrossesAt (Woven a alone) = Is a × ((q : Place) → CrossesAt q → ⊥) × IsLeast (Lacks a) alone
IsAnswer Is Lacks CrossesAt (Crossed p) = IsLeast CrossesAt (Some p)

abbrev pub crossed_at : {A : Type 0} → Answer A → Option Place
crossed_at (Woven a alone) = None
crossed_at (Crossed p) = Some p

-- ---- several, one after another

-- one answer more
abbrev pub IsAdded : {A : Type 0} → Gathered A → Answer A → Gathered A → Type 0
IsAdded old (Woven a alone) new = (new.list.items ≡ old.list.items ++ a ∷ []) × (new.alone ≡ earliest_of old.alone alone) × (new.crossed ≡ old.crossed)
IsAdded old (Crossed p) new = new.crossed ≡ earliest old.crossed p

abbrev pub gathered_answer : {A : Type 0} → Vec A Global → Option Place → Option Place → Answer (Vec A Global)
gathered_answer list alone None = Woven list alone
gathered_answer list alone (Some p) = Crossed p

-- ---- a level

abbrev pub IsLevelAnswer : List (List ℕ) → List Piece → Answer code_body.Body → Type 0
IsLevelAnswer cover ps answer = IsAnswer (λ b. IsWovenLevel cover ps (body_view b)) (λ b. LacksPartner (body_view b)) (ColumnsCross cover ps) answer

-- ---- several levels that cover the same

abbrev pub AreLevels : List (List Piece) → Type 0
AreLevels [] = ⊤
AreLevels (ps ∷ pss) = (AreNumbered 0 ps × AreFormed ps) × AreLevels pss

abbrev pub AreWovenLevels : List (List ℕ) → List (List Piece) → List Body → Type 0
AreWovenLevels cover [] [] = ⊤
AreWovenLevels cover [] (b ∷ bs) = ⊥
AreWovenLevels cover (ps ∷ pss) [] = ⊥
AreWovenLevels cover (ps ∷ pss) (b ∷ bs) = IsWovenLevel cover ps b × AreWovenLevels cover pss bs

abbrev pub OneCrosses : List (List ℕ) → List (List Piece) → Place → Type 0
OneCrosses cover [] q = ⊥
OneCrosses cover (ps ∷ pss) q = ColumnsCross cover ps q ⊎ OneCrosses cover pss q

abbrev pub AreLevelsAnswer : List (List ℕ) → List (List Piece) → Answer (Vec code_body.Body Global) → Type 0
AreLevelsAnswer cover pss answer =
    IsAnswer (λ bs. AreWovenLevels cover pss (map body_view bs.items)) (λ bs. OneLacksPartner (bodies (map body_view bs.items))) (OneCrosses cover pss) answer

-- ---- an item

-- columns cross there in one of its operands
abbrev pub ItemCrosses : List (List ℕ) → List Piece → Place → Type 0
ItemCrosses level [] q = ⊥
ItemCrosses level (p ∷ ps) q = (k : ℕ) × ColumnsCross (cover_of level p) (operands_of (cover_of level p) k (p ∷ ps)) q

abbrev pub IsItemAnswer : List (List ℕ) → List Piece → Answer code_item.Item → Type 0
IsItemAnswer level parts answer = IsAnswer (λ i. IsWovenItem level parts (item_view i)) (λ i. ItemLacksPartner (item_view i)) (ItemCrosses level parts) answer

-- ---- items of a level

abbrev pub OptionCrosses : List (List ℕ) → Option (List Piece) → Place → Type 0
OptionCrosses level None q = ⊥
OptionCrosses level (Some parts) q = ItemCrosses level parts q

-- columns cross there in one of the items of these numbers
abbrev pub ItemsCross : List (List ℕ) → List (List Piece) → List ℕ → Place → Type 0
ItemsCross level all [] q = ⊥
ItemsCross level all (x ∷ order) q = OptionCrosses level (slice_get all x) q ⊎ ItemsCross level all order q

abbrev pub AreItemsAnswer : List (List ℕ) → List (List Piece) → List ℕ → Answer (Vec code_item.Item Global) → Type 0
AreItemsAnswer level all order answer =
    IsAnswer (λ is. AreWovenItems level all order (items (map item_view is.items))) (λ is. ItemsLackPartner (items (map item_view is.items))) (ItemsCross level all order) answer
