use Rattle.std.proofs.Common.{ℕ, ◌+◌, ◌∙◌, ap}
use Rattle.command_tests.proofs.traces.feed.Goals as goal

pub loop-index-preserved : goal.loop-index-preserved
loop-index-preserved g c = (c.take.ensures.serves, c.in_ok-take.ensures.count ∙ ap (λ (n : ℕ). n + 1) c.loop-index.invariant.1)
