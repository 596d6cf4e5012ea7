use Rattle.std.proofs.Common.{◌≡◌, ◌<◌, ◌+◌, List, ℕ, Some, length, map, set, slice_get, subst, sym, ap, ap₂, ◌∙◌, arith}
use Rattle.std.proofs.lemmas.List.{length-map}
use Rattle.chart_extents.specs.Capped.{AreKeptUpTo, capped, names_of, sum_links}
use Rattle.chart_extents.specs.ExtentViews.{sized_view}
use Rattle.chart_extents.specs.declared.extent.Extent.{Extent}
use Rattle.chart_links.specs.LinkViews.{link_view}
use Rattle.chart_links.specs.Links.{Link}
use Rattle.chart_extents.proofs.CappedFacts.{got_mapped, rank_more, rank_other, read_at}
use Rattle.chart_extents.proofs.extents.add_rank.Goals as goal
use Rattle.chart_extents.proofs.extents.add_rank.Goals.{then-ranks-index, else-ranks-index}

pub loop-index-preserved : goal.loop-index-preserved
loop-index-preserved c =
    let list = c.args.charts.now in
    let charts = map sized_view list in
    let ranks = c.args.ranks.now in
    let k = c.loop-index.index in
    let old = c.loop-index.values.items in
    elim c.if-ranks-index.branch [
      | then-ranks-index w ↦
          let item = w.index-charts-index.result in
          let at : slice_get charts k ≡ Some (sized_view item) = got_mapped sized_view list k item (read_at list k item c.loop-index-test.true w.index-charts-index.is) in
          let low : k < length charts = omega (arith, c.loop-index-test.true, length-map list sized_view) in
          let value : w.sum_links.result ≡ sum_links (names_of charts) old (capped item.own) item.summary.now.links =
          w.sum_links.ensures ∙ ap₂ (λ (n : List (List ℕ)) (v : List Extent). sum_links n v w.up_to_most-own.result (map link_view w.as_slice.result.now)) c.requires.names w.as_slice-then-ranks-index.ensures.value
          ∙ ap₂ (λ (e : Extent) (l : List Link). sum_links (names_of charts) old e l) w.up_to_most-own.ensures w.as_slice.ensures in
          let made : c.if-ranks-index.values.items ≡ set old k (sum_links (names_of charts) old (capped item.own) item.summary.now.links) = ap (λ v. v.items) w.values-is ∙ ap (λ (e : Extent). set old k e) value in
          rank_more charts ranks c.requires.ranks old c.if-ranks-index.values.items c.args.rank k (sized_view item) c.loop-index.invariant at low w.if-ranks-index.true made
      | else-ranks-index w ↦
          subst (λ (l : List Extent). AreKeptUpTo charts ranks c.args.rank (k + 1) l) (sym (ap (λ v. v.items) w.values-is))
          (rank_other charts ranks c.requires.ranks old c.args.rank k c.loop-index.invariant w.if-ranks-index.false)
    ]
