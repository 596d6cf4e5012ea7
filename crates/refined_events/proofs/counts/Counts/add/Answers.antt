use Rattle.std.proofs.Common.{◌≡◌, ◌+◌, ◌∙◌, ℕ, List, ap, arith}
use Rattle.refined_events.specs.Keys.{key_view}
use Rattle.refined_events.specs.Sorted.{count_of}
use Rattle.refined_events.specs.declared.keys.EventKey.{EventKey}
use Rattle.refined_events.proofs.CountLaws.{added, count_in}
use Rattle.refined_events.proofs.counts.Counts.add.Goals as goal

pub returns : goal.returns
returns c = λ k.
    let at : c.at-count.result ≡ count_of c.args.self.now (key_view c.args.key) = c.at-count.ensures in
    ap (λ (es : List (EventKey × ℕ)). count_in es k) c.in_ok-insert.ensures.entries ∙ added c.args.self.now.held.entries c.args.key (c.at-count.result + 1) k (omega (arith, at))
