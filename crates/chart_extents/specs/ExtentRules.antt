-- Where charts are too deep, too large, or too large together.
use Rattle.std.specs.Prelude.{◌≡◌, ◌⊎◌, ◌+◌, ◌<◌, ◌≤◌, ℕ, List, [], ◌∷◌}
use Rattle.chart_extents.specs.Extents.{IsExtentOf, Sized}
use Rattle.chart_extents.specs.declared.extent.Extent.{Extent}
use Rattle.msc_base.specs.declared.limits.TheConstants.Limits.{EXPANDED_NESTING, EXPANDED_SIZE, TOTAL_SIZE}
use Rattle.msc_base.specs.declared.place.Place.{Place}

-- the chart comes to what passes the test
pub record ComesTo (charts : List Sized) (chart : Sized) (Test : Extent → Type 0) : Type 0 where
  pub all : Extent
  pub is : IsExtentOf charts chart all
  pub passes : Test all

-- one of these charts, which are among all, stands there and comes to what passes the test
abbrev pub OneComesTo : (Extent → Type 0) → List Sized → List Sized → Place → Type 0
OneComesTo Test all [] place = ⊥
OneComesTo Test all (chart ∷ charts) place = ((chart.place ≡ place) × ComesTo all chart Test) ⊎ OneComesTo Test all charts place

abbrev pub IsTooDeep : List Sized → Place → Type 0
IsTooDeep charts place = OneComesTo (λ e. EXPANDED_NESTING < e.nesting) charts charts place

abbrev pub IsTooLarge : List Sized → Place → Type 0
IsTooLarge charts place = OneComesTo (λ e. EXPANDED_SIZE < e.size) charts charts place

-- the chart at which the sum passes the limit stands there, behind charts of this sum
abbrev pub PassesTotal : List Sized → ℕ → List Sized → Place → Type 0
PassesTotal all sum [] place = ⊥
PassesTotal all sum (chart ∷ charts) place =
    ((chart.place ≡ place) × (sum ≤ TOTAL_SIZE) × ComesTo all chart (λ e. TOTAL_SIZE < sum + e.size)) ⊎ ComesTo all chart (λ e. PassesTotal all (sum + e.size) charts place)

abbrev pub AreTooLarge : List Sized → Place → Type 0
AreTooLarge charts place = PassesTotal charts 0 charts place
