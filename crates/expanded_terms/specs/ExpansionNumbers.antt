-- The events and walks of an expansion are numbered one after another, in the order of the text.
use Rattle.std.specs.Prelude.{◌≡◌, ◌+◌, ℕ, suc, List, [], ◌∷◌, ◌++◌, length, map}
use Rattle.msc_meaning.specs.Bodies.{WovenItems}
use Rattle.msc_meaning.specs.FarEnds.{GateMap}
use Rattle.msc_meaning.specs.InnerEvents.{GateEnd}
use Rattle.msc_meaning.specs.Tables.{Table}
use Rattle.expansion_tree.specs.Expansions.{Expansion, Event, InRow, Aside, OneOf, Exception, Turns, Tied, Walk, Expansions, no_parts, part_and, events_in}
use Rattle.expanded_charts.specs.Expanding.{NumberedEvent, expand_charts}

-- they are n, the next number, and so on
abbrev pub CountFrom : ℕ → List ℕ → Type 0
CountFrom n [] = Unit {0}
CountFrom n (k ∷ ks) = (k ≡ n) × CountFrom (suc n) ks

-- the numbers of events, by that of each, and of walks, in the order of the text
abbrev mutual
  pub numbers_by : {E : Type 0} → (E → ℕ) → Expansion E → List ℕ
  numbers_by f (Event e) = f e ∷ []
  numbers_by f (InRow xs) = all_numbers_by f xs
  numbers_by f (Aside xs) = all_numbers_by f xs
  numbers_by f (OneOf xs) = all_numbers_by f xs
  numbers_by f (Exception x) = numbers_by f x
  numbers_by f (Turns n lower upper x) = numbers_by f x
  numbers_by f (Tied x ps) = numbers_by f x
  numbers_by f (Walk n g xs) = n ∷ all_numbers_by f xs

  pub all_numbers_by : {E : Type 0} → (E → ℕ) → Expansions E → List ℕ
  all_numbers_by f no_parts = []
  all_numbers_by f (part_and x xs) = numbers_by f x ++ all_numbers_by f xs

abbrev pub number_of : NumberedEvent → ℕ
number_of e = e.number

abbrev pub numbers_of_events : Expansion NumberedEvent → List ℕ
numbers_of_events x = map number_of (events_in x)

-- so each number stands once, and those of a chart's expansion fill the interval from its first number to the next one
pub record ExpansionsAreNumbered : Type 0 where
  pub counted : (ends_of : WovenItems → List GateEnd) (table : Table) (depth : ℕ) (name : List ℕ) (gates : GateMap) (n : ℕ) → CountFrom n (numbers_by number_of (expand_charts ends_of table depth name gates n).part)
  pub next : (ends_of : WovenItems → List GateEnd) (table : Table) (depth : ℕ) (name : List ℕ) (gates : GateMap) (n : ℕ)
      → (expand_charts ends_of table depth name gates n).next ≡ n + length (numbers_by number_of (expand_charts ends_of table depth name gates n).part)
