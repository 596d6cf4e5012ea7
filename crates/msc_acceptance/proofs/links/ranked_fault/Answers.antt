use Rattle.std.proofs.Common.{◌≡◌, List, map, sym, subst, ap, ◌∙◌}
use Rattle.chart_extents.specs.Capped.{names_of}
use Rattle.chart_extents.specs.ExtentRules.{AreTooLarge, IsTooDeep, IsTooLarge}
use Rattle.chart_extents.specs.ExtentViews.{sized_view}
use Rattle.chart_extents.specs.Extents.{Sized, sized_charts, summaries}
use Rattle.chart_links.specs.Ranks.{AreRanks}
use Rattle.chart_links.specs.Summaries.{Summary}
use Rattle.join_sizes.specs.JoinSizes.{AreJoinSizes}
use Rattle.msc_base.specs.Lists.{AreDifferent}
use Rattle.msc_base.specs.Places.{IsLeast}
use Rattle.msc_tree.specs.Views.{chart_view}
use Rattle.msc_acceptance.specs.Deciding.{HaveExtents}
use Rattle.msc_acceptance.proofs.LinkLaws.{any_tied, have_extents, sized_names, sized_summaries}
use Rattle.msc_acceptance.proofs.links.ranked_fault.Goals as goal

pub join_sizes-requires-clause-tied : goal.join_sizes-requires-clause-tied
join_sizes-requires-clause-tied c = c.any_of-tied.ensures ∙ any_tied (map chart_view c.args.read.charts.now) c.args.read.tied.now c.requires.read.tied

pub join_sizes-requires-clause-ranks : goal.join_sizes-requires-clause-ranks
join_sizes-requires-clause-ranks c = subst (λ (l : List Summary). AreRanks l c.args.ranks.now) c.requires.summaries c.requires.ranks

pub chart_extents-requires-clause-ranks : goal.chart_extents-requires-clause-ranks
chart_extents-requires-clause-ranks c =
    let charts = map chart_view c.args.read.charts.now in
    let joined = c.as_slice.result.now in
    let same : map sized_view c.as_slice-2.result.now ≡ sized_charts charts joined = ap (map sized_view) c.as_slice-2.ensures.value ∙ c.in_ok-sized.ensures in
    subst (λ (l : List Summary). AreRanks l c.args.ranks.now) (c.requires.summaries ∙ sym (sized_summaries charts joined) ∙ ap summaries (sym same)) c.requires.ranks

pub chart_extents-requires-clause-different : goal.chart_extents-requires-clause-different
chart_extents-requires-clause-different c =
    let charts = map chart_view c.args.read.charts.now in
    let joined = c.as_slice.result.now in
    let same : map sized_view c.as_slice-2.result.now ≡ sized_charts charts joined = ap (map sized_view) c.as_slice-2.ensures.value ∙ c.in_ok-sized.ensures in
    subst (λ (l : List Sized). AreDifferent (names_of l)) (sym same) (subst AreDifferent (sym (sized_names charts joined)) c.requires.read.different)

pub extent_places-requires-clause-different : goal.extent_places-requires-clause-different
extent_places-requires-clause-different c =
    let charts = map chart_view c.args.read.charts.now in
    let joined = c.as_slice.result.now in
    let same : map sized_view c.as_slice-3.result.now ≡ sized_charts charts joined = ap (map sized_view) c.as_slice-3.ensures.value ∙ c.in_ok-sized.ensures in
    subst (λ (l : List Sized). AreDifferent (names_of l)) (sym same) (subst AreDifferent (sym (sized_names charts joined)) c.requires.read.different)

pub returns-clause-best : goal.returns-clause-best
returns-clause-best c =
    let charts = map chart_view c.args.read.charts.now in
    let joined = c.as_slice.result.now in
    let same : map sized_view c.as_slice-3.result.now ≡ sized_charts charts joined = ap (map sized_view) c.as_slice-3.ensures.value ∙ c.in_ok-sized.ensures in
    c.size_fault.ensures charts joined (subst (AreJoinSizes charts) (sym c.as_slice.ensures.value) c.in_ok-joined.ensures)
    (subst (λ (l : List Sized). IsLeast (IsTooDeep l) c.extent_places.result.deep) same c.extent_places.ensures.deep)
    (subst (λ (l : List Sized). IsLeast (IsTooLarge l) c.extent_places.result.large) same c.extent_places.ensures.large)
    (subst (λ (l : List Sized). IsLeast (AreTooLarge l) c.extent_places.result.total) same c.extent_places.ensures.total)

pub returns-clause-extents : goal.returns-clause-extents
returns-clause-extents c =
    let charts = map chart_view c.args.read.charts.now in
    let joined = c.as_slice.result.now in
    let same : map sized_view c.as_slice-2.result.now ≡ sized_charts charts joined = ap (map sized_view) c.as_slice-2.ensures.value ∙ c.in_ok-sized.ensures in
    record {
      joined = joined;
      are = subst (AreJoinSizes charts) (sym c.as_slice.ensures.value) c.in_ok-joined.ensures;
      holds = subst HaveExtents same (have_extents (map sized_view c.as_slice-2.result.now) c.in_ok-values.values.items c.in_ok-values.ensures);
    }
