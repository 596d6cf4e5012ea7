-- Ranks of charts, where none leads back to itself: each is above those of the charts that it names.
use Rattle.std.specs.Prelude.{◌≡◌, ◌+◌, ◌<◌, ℕ, zero, suc, Bool, List, Option, None, Some, if◌then◌else◌, length, slice_get, slice_index}
use Rattle.std.specs.List.{position}
use Rattle.std.specs.Str.{bytes_eq}
use Rattle.msc_base.specs.Lists.{IsAmong}
use Rattle.chart_links.specs.Links.{Link, linked}
use Rattle.chart_links.specs.Rows.{row_has}
use Rattle.chart_links.specs.Summaries.{Summary}

-- a number for each chart, above that of each chart that it names
pub record AreRanks (charts : List Summary) (ranks : List ℕ) : Type 0 where
  pub len : length ranks ≡ length charts
  pub falls : (i j : ℕ) (chart named : Summary) (link : Link) → slice_get charts i ≡ Some chart → slice_get charts j ≡ Some named → IsAmong chart.links link → linked link ≡ named.name → slice_index ranks j < slice_index ranks i

-- how many numbers below the count pass the test
abbrev pub tally : (ℕ → Bool) → ℕ → ℕ
tally test zero = 0
tally test (suc n) = (if test n then 1 else 0) + tally test n

-- to how many charts that of the number leads, where there is one
abbrev pub rank_at : List (List ℕ) → ℕ → Option ℕ → ℕ
rank_at reach count None = 0
rank_at reach count (Some u) = tally (row_has reach u) count

-- and that of the name
abbrev pub rank_of : List (List ℕ) → List (List ℕ) → List ℕ → ℕ
rank_of names reach name = rank_at reach (length names) (position (bytes_eq name) names)
