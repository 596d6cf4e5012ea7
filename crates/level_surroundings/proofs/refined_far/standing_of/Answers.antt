use Rattle.std.proofs.Common.{rules, ◌≡◌, ◌∷◌, ◌++◌, ◌-◌, ◌<◌, List, ap, arith, drop, length, subst, sym}
use Rattle.msc_meaning.specs.Refinements.{Match, all_matches}
use Rattle.refined_events.specs.MatchViews.{matches_view}
use Rattle.level_surroundings.specs.FarEndViews.{HasStanding}
use Rattle.level_surroundings.specs.RefiningViews.{refinings_view}
use Rattle.level_surroundings.specs.declared.refining.Refining as rust_refining
use Rattle.level_surroundings.proofs.Dropped.{drop_less, item_at}
use Rattle.level_surroundings.proofs.refined_far.standing_of.Goals as goal

pub loop-index-preserved : goal.loop-index-preserved
loop-index-preserved c =
    let refined = c.args.refined.now in
    let r = c.index-refined-index.result in
    let behind = all_matches (refinings_view (drop c.loop-index.index refined)) in
    let below : c.loop-index.index - 1 < length refined = omega (arith, c.loop-index.invariant.within) in
    let before : drop (c.loop-index.index - 1) refined ≡ r ∷ drop c.loop-index.index refined =
    drop_less refined (c.loop-index.index - 1) c.loop-index.index r (item_at refined (c.loop-index.index - 1) r below c.index-refined-index.is) (omega arith) in
    let listed : matches_view c.as_slice.result.now ≡ matches_view r.matches.items = ap matches_view (let e : c.as_slice.result.now ≡ r.matches.items = search rules in e) in
    record {
      within = omega (arith, c.loop-index.invariant.within);
      standing = subst (λ (rs : List rust_refining.Refining). HasStanding c.add_all_standing.new.far (all_matches (refinings_view rs))) (sym before)
          (subst (λ (ms : List Match). HasStanding c.add_all_standing.new.far (ms ++ behind)) listed (c.in_ok-add_all_standing.ensures behind c.loop-index.invariant.standing));
    }
