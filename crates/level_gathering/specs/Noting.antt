-- What is gathered while the references of each level are noted behind those that a list had before.
use Rattle.std.specs.Prelude.{◌≡◌, ℕ, List, [], ◌∷◌, ◌++◌}
use Rattle.msc_tree.specs.Statements.{Reference}
use Rattle.msc_meaning.specs.Bodies.{Body}
use Rattle.msc_meaning.specs.Pieces.{Piece}
use Rattle.level_gathering.specs.Gathered.{IsGatheredLevel}

-- it is so with some references, which alone were noted
pub record IsNoted (Is : List (List Reference) → Type 0) (old new : List (List Reference)) : Type 0 where
  pub inner : List (List Reference)
  pub is : Is inner
  pub adds : new ≡ old ++ inner

-- several levels that cover the same
pub data AreGatheredLevels (cover : List (List ℕ)) : List (List Piece) → List Body → List (List Reference) → Type 0 where
  no_level : AreGatheredLevels cover [] [] []
  level_and : {ps : List Piece} {pss : List (List Piece)} {body : Body} {bodies : List Body} {own behind : List (List Reference)}
      → IsGatheredLevel cover ps body own → AreGatheredLevels cover pss bodies behind → AreGatheredLevels cover (ps ∷ pss) (body ∷ bodies) (own ++ behind)
