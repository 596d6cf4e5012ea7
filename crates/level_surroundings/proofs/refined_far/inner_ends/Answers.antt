use Rattle.std.proofs.Common.{◌≡◌, ◌∷◌, ◌-◌, List, arith, drop, subst, sym}
use Rattle.msc_meaning.specs.FarEnds.{far_end}
use Rattle.msc_meaning.specs.Refinements.{inner_far}
use Rattle.refined_events.specs.MatchViews.{matches_view}
use Rattle.refined_events.specs.declared.matching.EventMatch.{EventMatch}
use Rattle.level_surroundings.specs.FarEndViews.{HasFar}
use Rattle.level_surroundings.specs.Givens.{around_view}
use Rattle.level_surroundings.proofs.Dropped.{drop_less}
use Rattle.level_surroundings.proofs.refined_far.inner_ends.Goals as goal

pub loop-index-preserved : goal.loop-index-preserved
loop-index-preserved c =
    let ms = c.args.matches.now in
    let before : drop (c.loop-index.index - 1) ms ≡ c.match_at.result ∷ drop c.loop-index.index ms = drop_less ms (c.loop-index.index - 1) c.loop-index.index c.match_at.result c.match_at.ensures (omega arith) in
    record {
      within = omega (arith, c.loop-index.invariant.within);
      far = subst (λ (l : List EventMatch). HasFar c.add_inner.new.far (inner_far (far_end c.args.level.called.now.ends (around_view c.args.level.given)) (matches_view l))) (sym before)
          (c.in_ok-add_inner.ensures (matches_view (drop c.loop-index.index ms)) c.loop-index.invariant.far);
    }
