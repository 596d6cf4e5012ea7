-- What a function that makes terms says of a term: its patterns mean these unfoldings; its events have the numbers of an
-- interval; these are the tags that are still to be seen of them.
use Rattle.std.specs.Prelude.{ℕ, ◌≤◌, ◌==◌, ◌≡◌, Bool, true, false, List, [], ◌∷◌, map}
use Rattle.std.specs.List.{flat_map}
use Rattle.msc_base.specs.declared.label.Label.{Label}
use Rattle.msc_unfolding.specs.Unfoldings.{Tag, Unfolding, is_pair}
use Rattle.chart_term.specs.TermPatterns.{Shape, Occurs}
use Rattle.sound_terms.specs.Intervals.{IsInside, IsBeyond}
use Rattle.term_meaning.specs.Meanings.{Mean}
use Rattle.term_meaning.specs.Naming.{IsSeen}

-- numbers of events, and a tag of each; a number may stand there with several
abbrev pub Shown : Type 0
Shown = List (ℕ × Tag)

abbrev pub put_tag : Bool → Tag → List Tag → List Tag
put_tag true a l = a ∷ l
put_tag false a l = l

-- the tags of a number
abbrev pub tags_in : Shown → ℕ → List Tag
tags_in [] n = []
tags_in (p ∷ sh) n = put_tag (n == p.0) p.1 (tags_in sh n)

-- the number with each of these tags
abbrev pub shown_at : ℕ → List Tag → Shown
shown_at n l = map (λ a. (n, a)) l

-- what is shown above a tie
abbrev pub past_shown : (Tag → List Tag) → Shown → Shown
past_shown f sh = flat_map (λ p. shown_at p.0 (f p.1)) sh

pub record IsPortion (labels : List Label) (names : List (List ℕ)) (lo hi : ℕ) (sh : Shown) (P : Shape → Type 0) (U : Unfolding → Type 0) : Type 0 where
  pub mean : Mean (IsSeen labels names (tags_in sh)) P U
  pub within : (s : Shape) → P s → (n : ℕ) → Occurs n s → IsInside lo hi n
  pub bare : (n : ℕ) → IsBeyond lo hi n → tags_in sh n ≡ []
  pub order : lo ≤ hi

-- the pairs of numbers for pairs of tags: all pairs of shown numbers the tags of which are a pair

abbrev pub add_pair : Bool → ℕ → ℕ → List (ℕ × ℕ) → List (ℕ × ℕ)
add_pair true m n r = (m, n) ∷ r
add_pair false m n r = r

abbrev pub pairs_at : List (Tag × Tag) → ℕ → Tag → Shown → List (ℕ × ℕ)
pairs_at q k a [] = []
pairs_at q k a (p ∷ ti) = add_pair (is_pair q a p.1) k p.0 (pairs_at q k a ti)

abbrev pub shown_pairs : List (Tag × Tag) → Shown → Shown → List (ℕ × ℕ)
shown_pairs q sh ti = flat_map (λ p. pairs_at q p.0 p.1 ti) sh
