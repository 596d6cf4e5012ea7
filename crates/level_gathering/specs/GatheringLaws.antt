-- The laws of gathered charts.
use Rattle.std.specs.Prelude.{◌≡◌, ℕ, List, length}
use Rattle.msc_tree.specs.Charts.{Chart}
use Rattle.msc_tree.specs.Statements.{Reference}
use Rattle.msc_meaning.specs.Bodies.{Body}
use Rattle.msc_meaning.specs.BodyLevels.{body_levels}
use Rattle.msc_meaning.specs.Pieces.{Piece}
use Rattle.msc_meaning.specs.Tables.{Table}
use Rattle.level_gathering.specs.Gathered.{IsGatheredLevel}
use Rattle.level_gathering.specs.GatheredCharts.{AreGathered}

-- charts are gathered to one table, with one list of references
abbrev pub GatheredTableIsOne : Type 0
GatheredTableIsOne = (charts : List Chart) (table other : Table) (references others : List (List (List Reference))) → AreGathered charts table references → AreGathered charts other others → (table ≡ other) × (references ≡ others)

-- there are as many lists of references as the body has levels
abbrev pub EachLevelHasItsReferences : Type 0
EachLevelHasItsReferences = (cover : List (List ℕ)) (ps : List Piece) (body : Body) (references : List (List Reference)) → IsGatheredLevel cover ps body references → length references ≡ length (body_levels body)
