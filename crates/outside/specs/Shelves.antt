-- What a shelf and a sink tell, and what their calls do to it.
use Rattle.std.specs.Prelude.{◌≡◌, ℕ, ◌<◌, List, [], ◌++◌, length, take, drop, Option, Some, None, ⊤}

-- the finite map from names to bytes: the bytes of a name that is held
abbrev pub Files : Type 0
Files = List ℕ → Option (List ℕ)

-- after a start that answered Ok: the rest is the entry's bytes, where the map is told
abbrev pub Opens : Option Files → List ℕ → Option (List ℕ) → Type 0
Opens None name rest = ⊤
Opens (Some files) name None = ⊥
Opens (Some files) name (Some bytes) = files name ≡ Some bytes

-- a read of n bytes into a buffer: a prefix of the rest, none only at its end or with no room
pub record Moves (n : ℕ) (rest left : List ℕ) (old new : List ℕ) : Type 0 where
  pub moved : rest ≡ take n new ++ left
  pub behind : drop n new ≡ drop n old
  pub end : n ≡ 0 → 0 < length new → left ≡ []

abbrev pub MovesKnown : ℕ → Option (List ℕ) → Option (List ℕ) → List ℕ → List ℕ → Type 0
MovesKnown n None left old new = ⊤
MovesKnown n (Some rest) None old new = ⊥
MovesKnown n (Some rest) (Some left) old new = Moves n rest left old new
