-- Serves private contracts alone.
-- Extents up to a number above all limits, and what links add to them.
use Rattle.std.specs.Prelude.{◌≡◌, ◌⊎◌, ◌<◌, ℕ, min, List, [], ◌∷◌, Option, None, Some, length, map, slice_get, slice_index_or}
use Rattle.std.specs.List.{position}
use Rattle.std.specs.Str.{bytes_eq}
use Rattle.chart_extents.specs.Extents.{IsExtentOf, Sized, nothing, with_named}
use Rattle.chart_extents.specs.declared.extent.Extent.{Extent}
use Rattle.chart_links.specs.Links.{Link, depth_of, linked}

-- above the limits of nesting, of size, and of the sum
abbrev pub most : ℕ
most = 2000001

abbrev pub capped : Extent → Extent
capped e = record { size = min e.size most; nesting = min e.nesting most }

-- the extent at the number, where there is one
abbrev pub extent_at : List Extent → Option ℕ → Extent
extent_at values None = nothing
extent_at values (Some i) = slice_index_or values i nothing

-- what is kept of the name
abbrev pub value_of : List (List ℕ) → List Extent → List ℕ → Extent
value_of names values name = extent_at values (position (bytes_eq name) names)

-- an extent with what links add to it
abbrev pub sum_links : List (List ℕ) → List Extent → Extent → List Link → Extent
sum_links names values so_far [] = so_far
sum_links names values so_far (link ∷ links) = sum_links names values (capped (with_named so_far (depth_of link) (value_of names values (linked link)))) links

-- what is kept of the chart of that number is what it comes to
pub record IsKept (charts : List Sized) (values : List Extent) (chart : Sized) (i : ℕ) : Type 0 where
  pub all : Extent
  pub is : IsExtentOf charts chart all
  pub kept : slice_index_or values i nothing ≡ capped all

-- of each chart
pub record AreKept (charts : List Sized) (values : List Extent) : Type 0 where
  pub len : length values ≡ length charts
  pub each : (i : ℕ) (chart : Sized) → slice_get charts i ≡ Some chart → IsKept charts values chart i

abbrev pub names_of : List Sized → List (List ℕ)
names_of charts = map (λ (c : Sized). c.summary.name) charts

-- of the charts of lower rank, and of those before the index of that rank
pub record AreKeptUpTo (charts : List Sized) (ranks : List ℕ) (rank index : ℕ) (values : List Extent) : Type 0 where
  pub len : length values ≡ length charts
  pub each : (i : ℕ) (chart : Sized) → slice_get charts i ≡ Some chart → (slice_index_or ranks i 0 < rank) ⊎ ((slice_index_or ranks i 0 ≡ rank) × (i < index)) → IsKept charts values chart i
