-- The test that all pairs of a pattern with places go forward, in one pass: the floor of an instance is the greatest place so far at it.
use Rattle.std.specs.Prelude.{ℕ, ◌<◌, List, ◌≡◌, true, max, cond}
use Rattle.msc_base.specs.Patterns.{seq, par, Position, empty, one, join, bind, event_at}
use Rattle.chart_term.specs.TermPatterns.{pairs, instances_of}
use Rattle.chart_term.specs.Terms.{TermEvent, has}
use Rattle.certificates.specs.Certificates.{PlacedShape, placed, place_at}

-- by instance
abbrev pub Floors : Type 0
Floors = ℕ → ℕ

-- an event raises the floor of each of its instances to its place
abbrev pub raised : Floors → TermEvent → ℕ → Floors
raised f e n i = cond (has (instances_of e).instances i) (max (f i) n) (f i)

-- the floors behind a pattern: of two parts in a row the second stands on those behind the first, side by side both on the same
abbrev pub floors_behind : Floors → PlacedShape → Floors
floors_behind f empty = f
floors_behind f (one d) = raised f d.event d.place
floors_behind f (join seq x y) = floors_behind (floors_behind f x) y
floors_behind f (join par x y) = λ i. max (floors_behind f x i) (floors_behind f y i)
floors_behind f (bind x q) = floors_behind f x

-- the event stands above the floor of each of its instances
abbrev pub IsAbove : Floors → TermEvent → ℕ → Type 0
IsAbove f e n = (i : ℕ) → has (instances_of e).instances i ≡ true → f i < n

-- of each pair of a tie with both ends in the pattern the first place is the smaller
abbrev pub DoPairsRise : PlacedShape → List (ℕ × ℕ) → Type 0
DoPairsRise x q = (i j : Position x) → pairs q (event_at placed x i).event.number (event_at placed x j).event.number ≡ true → place_at x i < place_at x j

-- the test, from the floors before the pattern
abbrev pub Stands : Floors → PlacedShape → Type 0
Stands f empty = Unit {0}
Stands f (one d) = IsAbove f d.event d.place
Stands f (join seq x y) = Stands f x × Stands (floors_behind f x) y
Stands f (join par x y) = Stands f x × Stands f y
Stands f (bind x q) = Stands f x × DoPairsRise x q
