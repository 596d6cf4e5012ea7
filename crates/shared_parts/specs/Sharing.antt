-- Serves private contracts alone.
-- What the parts of an item cover together, and which of them aren't shared.
use Rattle.std.specs.Prelude.{◌≡◌, ◌⊎◌, ◌&&◌, ◌||◌, ⊤, ℕ, Bool, IsTrue, true, false, not, List, [], ◌∷◌, Option, Some, None}
use Rattle.std.specs.List.{list_any}
use Rattle.std.specs.Str.{bytes_eq}
use Rattle.msc_base.specs.Lists.{IsAmong}
use Rattle.msc_meaning.specs.LevelItems.{cover_of, within}
use Rattle.msc_meaning.specs.Pieces.{Piece}
use Rattle.shared_parts.specs.declared.sharing.Known.{Known}
use Rattle.shared_parts.specs.declared.sharing.Sharing.{Sharing}

-- by the answer of a test, the one or the other
abbrev pub Tells : Bool → Type 0 → Type 0 → Type 0
Tells true Holds Fails = Holds
Tells false Holds Fails = Fails

-- each of the parts covers these instances
abbrev pub AllCover : List (List ℕ) → List (List ℕ) → List Piece → Type 0
AllCover level names [] = ⊤
AllCover level names (p ∷ ps) = (cover_of level p ≡ names) × AllCover level names ps

-- one of the parts covers others
abbrev pub OneCoversOthers : List (List ℕ) → List (List ℕ) → List Piece → Type 0
OneCoversOthers level names [] = ⊥
OneCoversOthers level names (p ∷ ps) = (cover_of level p ≡ names → ⊥) ⊎ OneCoversOthers level names ps

-- one of the parts stands in that column
abbrev pub StandsOne : List Piece → List ℕ → Type 0
StandsOne [] i = ⊥
StandsOne (p ∷ ps) i = (p.column ≡ Some i) ⊎ StandsOne ps i

-- each of the names is one of the columns
abbrev pub AllAmong : List (List ℕ) → List (List ℕ) → Type 0
AllAmong columns [] = ⊤
AllAmong columns (i ∷ names) = IsAmong columns i × AllAmong columns names

-- one of the names is none of the columns
abbrev pub OneIsMissing : List (List ℕ) → List (List ℕ) → Type 0
OneIsMissing columns [] = ⊥
OneIsMissing columns (i ∷ names) = (IsAmong columns i → ⊥) ⊎ OneIsMissing columns names

-- in the column of one of the names no part stands
abbrev pub OneHasNoPart : List (List ℕ) → List Piece → Type 0
OneHasNoPart names parts = (i : List ℕ) × IsAmong names i × (StandsOne parts i → ⊥)

abbrev pub AllHaveParts : List (List ℕ) → List Piece → Type 0
AllHaveParts names parts = (i : List ℕ) → IsAmong names i → StandsOne parts i

-- each of the names of either list is one of the other
abbrev pub HaveSame : List (List ℕ) → List (List ℕ) → Type 0
HaveSame names others = ((i : List ℕ) → IsAmong names i → IsAmong others i) × ((i : List ℕ) → IsAmong others i → IsAmong names i)

-- what the code knows of the instances that a part covers
pub record IsKnown (level cover : List (List ℕ)) (known : Known) : Type 0 where
  pub names_are : (i : List ℕ) → list_any (bytes_eq i) known.names.now ≡ list_any (bytes_eq i) cover
  pub all : IsTrue known.is_all → level ≡ cover
  pub kept : IsTrue known.is_kept → within level cover ≡ cover

abbrev pub has_several : List (List ℕ) → Bool
has_several [] = false
has_several (i ∷ []) = false
has_several (i ∷ j ∷ names) = true

abbrev pub lacks_name : Option (List ℕ) → Bool
lacks_name None = true
lacks_name (Some name) = false

-- what the code knows of an item of these parts, the first of which covers these instances
pub record IsSharing (level names : List (List ℕ)) (parts : List Piece) (sharing : Sharing) : Type 0 where
  pub all : Tells sharing.all_break (OneCoversOthers level names parts ⊎ OneHasNoPart names parts) (AllCover level names parts × AllHaveParts names parts)
  pub several : sharing.several ≡ has_several names
  pub names_are : (i : List ℕ) → list_any (bytes_eq i) sharing.names ≡ list_any (bytes_eq i) names

-- whether a part in that column isn't shared: where all aren't, where the names lack its column, or where it has no name and they are several
abbrev pub is_unshared_in : Bool → Bool → List (List ℕ) → Option (List ℕ) → Option (List ℕ) → Bool
is_unshared_in all several names None name = false
is_unshared_in all several names (Some column) name = all || (not (list_any (bytes_eq column) names) || (several && lacks_name name))
