-- What charts come to with the charts that they name: their expanded size and their expanded nesting. Where no chart leads back to itself
-- and no two have one name, each has one of either.
use Rattle.std.specs.Prelude.{◌≡◌, ◌+◌, ℕ, suc, max, List, [], ◌∷◌, map, slice_index_or}
use Rattle.chart_extents.specs.OwnExtents.{own_extent}
use Rattle.chart_extents.specs.declared.extent.Extent.{Extent}
use Rattle.chart_links.specs.Links.{Link, depth_of, linked}
use Rattle.chart_links.specs.References.{IsCalled}
use Rattle.chart_links.specs.Summaries.{Summary, summary_of}
use Rattle.msc_base.specs.Lists.{IsAmong}
use Rattle.msc_base.specs.declared.place.Place.{Place}
use Rattle.msc_tree.specs.Charts.{Chart}

-- a chart, with what it comes to by itself
pub record Sized : Type 0 where
  pub summary : Summary
  pub place : Place
  pub own : Extent

-- an extent with what joins between two gates add
abbrev pub with_joins : Extent → ℕ → Extent
with_joins own joined = record { size = own.size + joined; nesting = own.nesting }

abbrev pub sized_of : Chart → ℕ → Sized
sized_of chart joined = record { summary = summary_of chart; place = chart.place; own = with_joins (own_extent chart) joined }

-- these charts, from that number on, each with what its joins add: what the list says at its number, and nothing behind the end of the list
abbrev pub sized_from : List ℕ → ℕ → List Chart → List Sized
sized_from joined i [] = []
sized_from joined i (c ∷ cs) = sized_of c (slice_index_or joined i 0) ∷ sized_from joined (suc i) cs

abbrev pub sized_charts : List Chart → List ℕ → List Sized
sized_charts charts joined = sized_from joined 0 charts

abbrev pub summaries : List Sized → List Summary
summaries charts = map (λ (c : Sized). c.summary) charts

-- with what is named so deep: its size is added, and its nesting counts from there
abbrev pub with_named : Extent → ℕ → Extent → Extent
with_named all depth named = record { size = all.size + named.size; nesting = max all.nesting (depth + named.nesting) }

abbrev pub nothing : Extent
nothing = record { size = 0; nesting = 0 }

mutual
  -- what a name comes to; one that no chart has, to nothing
  pub data HasExtent (charts : List Sized) : List ℕ → Extent → Type 0 where
    of_none : {name : List ℕ} {all : Extent} → (IsCalled (summaries charts) name → ⊥) → all ≡ nothing → HasExtent charts name all
    of_chart : {name : List ℕ} {all : Extent} (chart : Sized) → IsAmong charts chart → chart.summary.name ≡ name → AddsUp charts chart.own chart.summary.links all → HasExtent charts name all

  -- an extent, with those of what the links name
  pub data AddsUp (charts : List Sized) : Extent → List Link → Extent → Type 0 where
    no_link : {all : Extent} → AddsUp charts all [] all
    link_and : {so_far named all : Extent} {link : Link} {links : List Link} → HasExtent charts (linked link) named → AddsUp charts (with_named so_far (depth_of link) named) links all → AddsUp charts so_far (link ∷ links) all

-- what the chart comes to
abbrev pub IsExtentOf : List Sized → Sized → Extent → Type 0
IsExtentOf charts chart all = AddsUp charts chart.own chart.summary.links all
