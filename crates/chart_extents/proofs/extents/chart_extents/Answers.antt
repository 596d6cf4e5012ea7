use Rattle.std.proofs.Common.{ℕ, map, subst, sym}
use Rattle.std.proofs.lemmas.List.{length-map}
use Rattle.chart_extents.specs.Capped.{AreKeptUpTo}
use Rattle.chart_extents.specs.ExtentViews.{sized_view}
use Rattle.chart_extents.proofs.CappedFacts.{rank_done, ranks_done}
use Rattle.chart_extents.proofs.extents.chart_extents.Goals as goal

pub loop-rank-preserved : goal.loop-rank-preserved
loop-rank-preserved c =
    let charts = map sized_view c.args.charts.now in
    rank_done charts c.args.ranks.now c.requires.ranks c.add_rank.new.values.items c.loop-rank.rank
    (subst (λ (n : ℕ). AreKeptUpTo charts c.args.ranks.now c.loop-rank.rank n c.add_rank.new.values.items) (sym (length-map c.args.charts.now sized_view)) c.add_rank.ensures)

pub returns : goal.returns
returns c =
    let charts = map sized_view c.args.charts.now in
    let most = c.highest-most.result in
    ranks_done charts c.args.ranks.now c.requires.ranks c.add_rank-2.new.values.items most c.highest-most.ensures
    (rank_done charts c.args.ranks.now c.requires.ranks c.add_rank-2.new.values.items most
    (subst (λ (n : ℕ). AreKeptUpTo charts c.args.ranks.now most n c.add_rank-2.new.values.items) (sym (length-map c.args.charts.now sized_view)) c.add_rank-2.ensures))
