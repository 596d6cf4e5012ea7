-- The numbers of a term's events by the tags that are still to be seen of them, and the pairs of numbers that pairs of tags come to.
use Rattle.std.specs.Prelude.{ℕ, Bool, true, false, List, [], ◌∷◌, map}
use Rattle.std.specs.List.{flat_map}
use Rattle.msc_unfolding.specs.Unfoldings.{Tag, is_same_tag}
use Rattle.term_meaning.specs.Portions.{Shown}

abbrev pub number_if : Bool → ℕ → List ℕ → List ℕ
number_if true m ms = m ∷ ms
number_if false m ms = ms

-- the numbers that have the tag: of an event's own number one at most, of a gate one for each of its inner events
abbrev pub numbers_with : Tag → Shown → List ℕ
numbers_with a [] = []
numbers_with a (p ∷ sh) = number_if (is_same_tag p.1 a) p.0 (numbers_with a sh)

-- the number before each of those
abbrev pub pairs_with : ℕ → List ℕ → List (ℕ × ℕ)
pairs_with m ns = map (λ n. (m, n)) ns

-- each of these before each of those
abbrev pub pairs_between : List ℕ → List ℕ → List (ℕ × ℕ)
pairs_between ms ns = flat_map (λ m. pairs_with m ns) ms

-- the pairs of tags in their order, each as all pairs of numbers that have the first and the second
abbrev pub tied_numbers : Shown → List (Tag × Tag) → List (ℕ × ℕ)
tied_numbers sh ts = flat_map (λ t. pairs_between (numbers_with t.0 sh) (numbers_with t.1 sh)) ts
