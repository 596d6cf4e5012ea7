-- The laws by which a checker decides: a certificate shows one pattern at most, and one pass with floors tests all its pairs.
use Rattle.std.specs.Prelude.{◌<◌, ◌≡◌}
use Rattle.msc_base.specs.Patterns.{Position, Before}
use Rattle.chart_term.specs.TermMeanings.{NetTerms}
use Rattle.chart_term.specs.TermPatterns.{Both}
use Rattle.chart_term.specs.Terms.{Tree}
use Rattle.certificates.specs.Certificates.{Certificate, PlacedShape, placed, place_at, Shows}
use Rattle.certificates.specs.Floors.{Stands}

pub record ChecksAreExact : Type 0 where
  pub one : (w : NetTerms) (x : Tree) (c : Certificate) (p q : PlacedShape) → Shows w x c p → Shows w x c q → p ≡ q
  -- from floors of 0, since places are counted from 1
  pub floors : (p : PlacedShape) → ((i : Position p) → 0 < place_at p i) → Both ((i j : Position p) → Before placed p i j → place_at p i < place_at p j) (Stands (λ i. 0) p)
