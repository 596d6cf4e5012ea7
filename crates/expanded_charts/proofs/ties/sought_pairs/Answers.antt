use Rattle.std.proofs.Common.{◌≡◌, ◌++◌, ◌∙◌, ℕ, List, ap}
use Rattle.expanded_charts.specs.Expanding.{pairs_between}
use Rattle.expanded_charts.specs.TieNumbers.{numbers_of}
use Rattle.expanded_charts.proofs.TieFacts.{ties_more}
use Rattle.expanded_charts.proofs.ties.sought_pairs.Goals as goal

pub loop-index-preserved : goal.loop-index-preserved
loop-index-preserved c =
    let tie = c.at-tie.result.now in
    let firsts : c.as_slice.result.now ≡ numbers_of tie.first c.args.shown.now = c.as_slice.ensures ∙ c.in_ok-firsts.ensures in
    let seconds : c.as_slice-in-loop-index.result.now ≡ numbers_of tie.second c.args.shown.now = c.as_slice-in-loop-index.ensures ∙ c.in_ok-seconds.ensures in
    ties_more c.args.shown.now c.args.ties.now c.loop-index.index tie c.loop-index.list c.push_between.new.list c.at-tie.ensures c.loop-index.invariant
    (c.in_ok-push_between.ensures ∙ (ap (λ (ms : List ℕ). c.loop-index.list ++ pairs_between ms c.as_slice-in-loop-index.result.now) firsts ∙ ap (λ (ns : List ℕ). c.loop-index.list ++ pairs_between (numbers_of tie.first c.args.shown.now) ns) seconds))
