-- The law of woven bodies.
use Rattle.std.specs.Prelude.{◌≡◌, ℕ, List}
use Rattle.msc_meaning.specs.Bodies.{Body}
use Rattle.msc_meaning.specs.Levels.{IsWovenLevel}
use Rattle.msc_meaning.specs.Pieces.{Piece}

-- a level is woven to one body at most
abbrev pub WovenBodyIsOne : Type 0
WovenBodyIsOne = (cover : List (List ℕ)) (ps : List Piece) (a b : Body) → IsWovenLevel cover ps a → IsWovenLevel cover ps b → a ≡ b
