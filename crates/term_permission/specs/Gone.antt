-- Which pairs of a tie may have lost an end, where numbers of the term below it are gone.
use Rattle.std.specs.Prelude.{ℕ, ◌≡◌, ◌&&◌, Bool, true, false, List, [], ◌∷◌}
use Rattle.msc_base.specs.declared.label.Pair.{Pair}
use Rattle.term_facts.specs.declared.facts.Span.{Span}
use Rattle.tie_list.specs.Names.{has_end_in}
use Rattle.chart_term.specs.Terms.{has}

-- both ends of the pair are among the numbers
abbrev pub has_ends : List ℕ → Pair → Bool
has_ends ns p = has ns p.first && has ns p.second

-- both ends of each pair are among the numbers, but maybe where one of them lies in the span
abbrev pub AreShownBut : Span → List ℕ → List Pair → Type 0
AreShownBut s ns [] = Unit {0}
AreShownBut s ns (p ∷ q) = (has_end_in s.least s.greatest p ≡ false → has_ends ns p ≡ true) × AreShownBut s ns q
