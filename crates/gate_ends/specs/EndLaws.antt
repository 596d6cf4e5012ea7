-- The inner events that are found are what the meaning says, and so are the ends of the called gates of a level.
use Rattle.std.specs.Prelude.{◌≡◌, ◌≤◌, ℕ, List}
use Rattle.msc_base.specs.Orders.{Among}
use Rattle.msc_meaning.specs.Bodies.{WovenItems}
use Rattle.msc_meaning.specs.Calls.{calls}
use Rattle.msc_meaning.specs.InnerEvents.{InnerEvent, IsInnerOf, AreEnds}
use Rattle.msc_meaning.specs.MeaningLaws.{HaveEnds}
use Rattle.msc_meaning.specs.Tables.{Table}
use Rattle.gate_ends.specs.FoundEnds.{AreAll, GoesTo, items_names, inner_of, inner_to, ends_to, listed}

-- where the charts that a level names are so deep
pub record EndsAreFound : Type 0 where
  pub only : (table : Table) (k : ℕ) (held : WovenItems) (name g : List ℕ) (e : InnerEvent) → Among e (listed (inner_of (inner_to table k) held name g)) → IsInnerOf table held name g e
  pub all : (table : Table) (k : ℕ) (held : WovenItems) (name g : List ℕ) (e : InnerEvent) → AreAll (GoesTo table k) (items_names held) → IsInnerOf table held name g e → Among e (listed (inner_of (inner_to table k) held name g))
  pub ends : (table : Table) (k : ℕ) (held : WovenItems) → AreAll (GoesTo table k) (items_names held) → HaveEnds table held (calls held) → AreEnds table held (calls held) (ends_to table k held)
  -- and no more are found deeper
  pub same : (table : Table) (j k : ℕ) (name g : List ℕ) → j ≤ k → GoesTo table j name → inner_to table k name g ≡ inner_to table j name g
