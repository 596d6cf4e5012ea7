-- The order of what terms are made of: counts and pairs of numbers.
use Rattle.std.specs.Ordering.{nat_cmp, ordering_then}
use Rattle.std.specs.Prelude.{ℕ, List, [], ◌∷◌, Option, Some, None, map}
use Rattle.std.specs.declared.cmp.Ordering.{Ordering}
use Rattle.std.specs.declared.cmp.Ordering.TheVariants.{Less, Equal, Greater}
use Rattle.msc_base.specs.declared.label.Pair.{Pair}

-- none first
abbrev pub maybe_cmp : Option ℕ → Option ℕ → Ordering
maybe_cmp None None = Equal
maybe_cmp None (Some n) = Less
maybe_cmp (Some m) None = Greater
maybe_cmp (Some m) (Some n) = nat_cmp m n

-- by the first number, then by the second
abbrev pub pair_cmp : ℕ × ℕ → ℕ × ℕ → Ordering
pair_cmp p r = ordering_then (nat_cmp p.0 r.0) (nat_cmp p.1 r.1)

-- pair by pair
abbrev pub pairs_cmp : List (ℕ × ℕ) → List (ℕ × ℕ) → Ordering
pairs_cmp [] [] = Equal
pairs_cmp [] (r ∷ s) = Less
pairs_cmp (p ∷ q) [] = Greater
pairs_cmp (p ∷ q) (r ∷ s) = ordering_then (pair_cmp p r) (pairs_cmp q s)

-- the pair of numbers
abbrev pub pair_of : Pair → ℕ × ℕ
pair_of p = (p.first, p.second)

-- the pairs of numbers
abbrev pub pairs_of : List Pair → List (ℕ × ℕ)
pairs_of q = map pair_of q
