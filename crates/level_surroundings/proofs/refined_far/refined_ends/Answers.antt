use Rattle.std.proofs.Common.{◌≡◌, ◌∷◌, ◌-◌, List, arith, drop, subst, sym}
use Rattle.msc_base.specs.declared.label.Pair.{Pair}
use Rattle.msc_meaning.specs.Refinements.{all_matches, refined_far}
use Rattle.level_surroundings.specs.FarEndViews.{HasFar}
use Rattle.level_surroundings.specs.RefiningViews.{refinings_view}
use Rattle.level_surroundings.proofs.Dropped.{drop_less}
use Rattle.level_surroundings.proofs.refined_far.refined_ends.Goals as goal

pub loop-index-preserved : goal.loop-index-preserved
loop-index-preserved c =
    let ps = c.args.pairs.now in
    let ms = all_matches (refinings_view c.args.refined.now) in
    let before : drop (c.loop-index.index - 1) ps ≡ c.pair_at.result ∷ drop c.loop-index.index ps = drop_less ps (c.loop-index.index - 1) c.loop-index.index c.pair_at.result c.pair_at.ensures (omega arith) in
    record {
      within = omega (arith, c.loop-index.invariant.within);
      far = subst (λ (l : List Pair). HasFar c.put_pair.new.far (refined_far l ms)) (sym before) (c.in_ok-put_pair.ensures ms (drop c.loop-index.index ps) c.in_ok-standing.ensures c.loop-index.invariant.far);
    }
