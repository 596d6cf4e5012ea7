-- Ranks of the events of an expansion, under which they can happen: of two events at one instance that stand one behind another the first
-- has the lower rank, and so has the first of each pair. A loop counts as one event, since one turn of it may follow another, and its
-- turn has ranks of its own. So does a walk through a graph; what its nodes come to is ordered by itself, and nothing is asked of it here.
-- The order of the events is cyclic where they have none.
use Rattle.std.specs.Prelude.{◌≡◌, ◌<◌, ℕ, false, List}
use Rattle.msc_base.specs.declared.label.Pair.{Pair}
use Rattle.msc_base.specs.Orders.{Among}
use Rattle.expansion_tree.specs.Expansions.{Event, InRow, Aside, OneOf, Exception, Turns, Tied, Walk, no_parts, part_and, is_exception}
use Rattle.expansion_tree.specs.Numbered.{Expansion, Expansions}
use Rattle.expansion_order.specs.Stops.{counted, all_counted}
use Rattle.expansion_order.specs.declared.stops.Stop.{Stop}

-- of two events at one instance, one of each list, the first has the lower rank
abbrev pub DoPrecede : (ℕ → ℕ) → List Stop → List Stop → Type 0
DoPrecede rank ss ts = (s t : Stop) → Among s ss → Among t ts → s.column ≡ t.column → rank s.number < rank t.number

-- nothing is asked between an exception and what stands behind it, nor between parts side by side, nor between alternatives
abbrev mutual
  pub IsRanked : (ℕ → ℕ) → Expansion → Type 0
  IsRanked rank (Event e) = Unit {0}
  IsRanked rank (InRow xs) = AreRankedInRow rank xs
  IsRanked rank (Aside xs) = AreRanked rank xs
  IsRanked rank (OneOf xs) = AreRanked rank xs
  IsRanked rank (Exception x) = IsRanked rank x
  IsRanked rank (Turns n lower upper x) = (own : ℕ → ℕ) × IsRanked own x
  IsRanked rank (Tied x ps) = ((p : Pair) → Among p ps → rank p.first < rank p.second) × IsRanked rank x
  IsRanked rank (Walk n g xs) = Unit {0}

  pub AreRankedInRow : (ℕ → ℕ) → Expansions → Type 0
  AreRankedInRow rank no_parts = Unit {0}
  AreRankedInRow rank (part_and x xs) = IsRanked rank x × (is_exception x ≡ false → DoPrecede rank (counted x) (all_counted xs)) × AreRankedInRow rank xs

  pub AreRanked : (ℕ → ℕ) → Expansions → Type 0
  AreRanked rank no_parts = Unit {0}
  AreRanked rank (part_and x xs) = IsRanked rank x × AreRanked rank xs

-- the events can happen in an order
pub record CanBeRanked (x : Expansion) : Type 0 where
  pub rank : ℕ → ℕ
  pub ranked : IsRanked rank x
