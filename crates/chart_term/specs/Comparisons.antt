-- Serves private contracts alone.
-- How two terms compare, and parts of two lists, where the comparison goes on with something of them.
use Rattle.std.specs.Ordering.{ordering_then}
use Rattle.std.specs.Prelude.{ℕ, ◌<◌, ◌≡◌, List, drop}
use Rattle.std.specs.declared.cmp.Ordering.{Ordering}
use Rattle.chart_term.specs.Order.{row_cmp, tree_cmp}
use Rattle.chart_term.specs.Sizes.{nodes}
use Rattle.chart_term.specs.Terms.{Part, row_of}
use Rattle.chart_term.specs.declared.term.order.Compared.{Compared}
use Rattle.chart_term.specs.declared.term.order.Compared.TheVariants as compared

-- the order is told, or it is that of two terms, of which the first has fewer nodes than this, and where they are equal what is told
abbrev pub ComparesAs : Ordering → ℕ → Compared → Type 0
ComparesAs o n (compared.Told p) = p ≡ o
ComparesAs o n (compared.As x y p) = (ordering_then (tree_cmp x.now y.now) p ≡ o) × (nodes x.now < n)

-- the order of the parts from one place up to another, behind which those from the other on decide
abbrev pub ComparesParts : List Part → List Part → ℕ → ℕ → Ordering → Type 0
ComparesParts ps qs from to o = ordering_then o (row_cmp (row_of (drop to ps)) (row_of (drop to qs))) ≡ row_cmp (row_of (drop from ps)) (row_of (drop from qs))
