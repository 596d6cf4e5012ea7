use Rattle.std.proofs.Common.{◌≡◌, ◌∷◌, ◌++◌, ◌-◌, List, arith, drop, subst, sym}
use Rattle.refined_events.specs.MatchViews.{matches_view}
use Rattle.refined_events.specs.declared.matching.EventMatch.{EventMatch}
use Rattle.level_surroundings.specs.FarEndViews.{HasStanding}
use Rattle.level_surroundings.proofs.Dropped.{drop_less}
use Rattle.level_surroundings.proofs.refined_far.add_all_standing.Goals as goal

pub loop-index-preserved : goal.loop-index-preserved
loop-index-preserved c =
    let ms = c.args.matches.now in
    let before : drop (c.loop-index.index - 1) ms ≡ c.match_at.result ∷ drop c.loop-index.index ms = drop_less ms (c.loop-index.index - 1) c.loop-index.index c.match_at.result c.match_at.ensures (omega arith) in
    record {
      within = omega (arith, c.loop-index.invariant.within);
      standing = λ others h.
          subst (λ (l : List EventMatch). HasStanding c.add_standing.new.far (matches_view l ++ others)) (sym before)
          (c.in_ok-add_standing.ensures (matches_view (drop c.loop-index.index ms) ++ others) (c.loop-index.invariant.standing others h));
    }
