-- The pairs of numbers of an expansion's tie are those of its term's.
use Rattle.std.specs.Prelude.{ℕ, Bool, true, false, filter, List, [], ◌∷◌, ◌++◌, map, if◌then◌else◌}
use Rattle.std.proofs.Common.{◌≡◌, refl, ◌∙◌, ap, ap₂}
use Rattle.std.proofs.lemmas.List.{map-append}
use Rattle.msc_base.specs.declared.label.Pair.{Pair}
use Rattle.msc_unfolding.specs.Unfoldings.{Tag, is_same_tag}
use Rattle.chart_term.specs.Views.{pair_of, pairs_of}
use Rattle.term_meaning.specs.Portions.{Shown}
use Rattle.expanded_charts.specs.Expanding.{tied_pairs}
use Rattle.expanded_charts.specs.Expanding as expanding
use Rattle.expanded_terms.specs.TagNumbers.{number_if, numbers_with, pairs_with, pairs_between, tied_numbers}

numbers_are : (a : Tag) (sh : Shown) → expanding.numbers_with a sh ≡ numbers_with a sh
numbers_are a [] = refl
numbers_are a (p ∷ sh) = by (is_same_tag p.1 a) (numbers_are a sh)
  where
    by : (b : Bool) → map (λ p. p.0) (filter (λ p. is_same_tag p.1 a) sh) ≡ numbers_with a sh
        → map (λ p. p.0) (if b then p ∷ filter (λ p. is_same_tag p.1 a) sh else filter (λ p. is_same_tag p.1 a) sh) ≡ number_if b p.0 (numbers_with a sh)
    by true e = ap (λ l. p.0 ∷ l) e
    by false e = e

with_are : (m : ℕ) (ns : List ℕ) → pairs_of (map (λ n. record { first = m; second = n }) ns) ≡ pairs_with m ns
with_are m [] = refl
with_are m (n ∷ ns) = ap (λ l. (m, n) ∷ l) (with_are m ns)

pairs_app : (a b : List Pair) → pairs_of (a ++ b) ≡ pairs_of a ++ pairs_of b
pairs_app a b = map-append pair_of a b

between_are : (ms ns : List ℕ) → pairs_of (expanding.pairs_between ms ns) ≡ pairs_between ms ns
between_are [] ns = refl
between_are (m ∷ ms) ns = pairs_app (map (λ n. record { first = m; second = n }) ns) (expanding.pairs_between ms ns) ∙ ap₂ (λ (a b : List (ℕ × ℕ)). a ++ b) (with_are m ns) (between_are ms ns)

pub pairs_are : (sh : Shown) (ts : List (Tag × Tag)) → pairs_of (tied_pairs sh ts) ≡ tied_numbers sh ts
pairs_are sh [] = refl
pairs_are sh (t ∷ ts) =
    pairs_app (expanding.pairs_between (expanding.numbers_with t.0 sh) (expanding.numbers_with t.1 sh)) (tied_pairs sh ts)
    ∙ ap₂ (λ (a b : List (ℕ × ℕ)). a ++ b)
    (between_are (expanding.numbers_with t.0 sh) (expanding.numbers_with t.1 sh) ∙ ap₂ pairs_between (numbers_are t.0 sh) (numbers_are t.1 sh))
    (pairs_are sh ts)
