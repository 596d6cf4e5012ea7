-- Charts with what their joins add to their sizes.
use Rattle.std.specs.Prelude.{ℕ, List}
use Rattle.chart_extents.specs.Extents.{Sized, sized_charts}
use Rattle.join_sizes.specs.JoinSizes.{AreJoinSizes}
use Rattle.msc_tree.specs.Charts.{Chart}

-- so it is of the charts with what their joins add
pub record OfSizes (charts : List Chart) (Holds : List Sized → Type 0) : Type 0 where
  pub joined : List ℕ
  pub are : AreJoinSizes charts joined
  pub holds : Holds (sized_charts charts joined)
