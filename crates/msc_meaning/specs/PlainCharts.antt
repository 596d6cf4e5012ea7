-- The law of plain charts: a level that holds events alone has one unfolding.
use Rattle.std.specs.Prelude.{◌≡◌, ◌↔◌, ℕ, List, [], ◌∷◌, ◌++◌, Some}
use Rattle.msc_base.specs.declared.label.Pair.{Pair}
use Rattle.msc_base.specs.declared.label.Label.{Label}
use Rattle.msc_base.specs.Patterns.{seq, empty, one, join, bind}
use Rattle.msc_unfolding.specs.Runs.{IsRun}
use Rattle.msc_unfolding.specs.Unfoldings.{Unfolding, level_tie}
use Rattle.msc_meaning.specs.Bodies.{EventNode, level, WovenItems, no_items, item_and, Single}
use Rattle.msc_meaning.specs.Tables.{Table, ChartEntry, chart_at, Basic, refinements}
use Rattle.msc_meaning.specs.Calls.{calls}
use Rattle.msc_meaning.specs.FarEnds.{Around, no_gates, happening}
use Rattle.msc_meaning.specs.Ties.{ties}
use Rattle.msc_meaning.specs.Meanings.{Conforms, Begins}
use Rattle.msc_meaning.specs.ChartUnfoldings.{under, OfLevel}

-- items that are events
abbrev pub singles : List EventNode → WovenItems
singles [] = no_items
singles (n ∷ ns) = item_and (Single n) (singles ns)

-- the events, one after another
abbrev pub in_a_row : Around → List EventNode → Unfolding
in_a_row around [] = empty
in_a_row around (n ∷ ns) = join seq (one (happening [] around n)) (in_a_row around ns)

-- the events one after another, tied by the messages and the general ordering
abbrev pub plain_unfolding : Around → List EventNode → List Pair → Unfolding
plain_unfolding around ns pairs = bind (in_a_row around ns) (level_tie (ties (singles ns) pairs [] []))

-- where no event calls a gate, a level of events has that unfolding and no other
abbrev pub PlainHasOne : Type 0
PlainHasOne = (table : Table) (around : Around) (cover : List (List ℕ)) (ns : List EventNode) (pairs : List Pair) → calls (singles ns) ≡ []
    → (u : Unfolding) → OfLevel table around (level cover (singles ns) pairs) u ↔ (u ≡ plain_unfolding around ns pairs)

-- a plain chart of the table: a basic chart of these events and messages, none of them decomposed or calling
pub record IsPlain (table : Table) (name : List ℕ) (ns : List EventNode) (pairs : List Pair) : Type 0 where
  pub chart : ChartEntry
  pub cover : List (List ℕ)
  pub is : chart_at table name ≡ Some chart
  pub whole : refinements chart.decls ≡ []
  pub events : chart.content ≡ Basic (level cover (singles ns) pairs)
  pub silent : calls (singles ns) ≡ []

-- its runs are those of that one unfolding
abbrev pub PlainConforms : Type 0
PlainConforms = (table : Table) (name : List ℕ) (ns : List EventNode) (pairs : List Pair) → IsPlain table name ns pairs
    → (labels : List Label) → Conforms table name labels ↔ IsRun (plain_unfolding (under no_gates) ns pairs) labels

-- and so are their beginnings
abbrev pub PlainBegins : Type 0
PlainBegins = (table : Table) (name : List ℕ) (ns : List EventNode) (pairs : List Pair) → IsPlain table name ns pairs
    → (labels : List Label) → Begins table name labels ↔ ((rest : List Label) × IsRun (plain_unfolding (under no_gates) ns pairs) (labels ++ rest))
