use Rattle.std.specs.BTreeMap.{get}
use Rattle.std.specs.Ordering.{nat_cmp}
use Rattle.std.proofs.Common.{◌∙◌, sym}
use Rattle.expanded_charts.proofs.TieFacts.{numbers_more}
use Rattle.expanded_charts.proofs.ties.numbers_of.Goals as goal

pub loop-index-preserved : goal.loop-index-preserved
loop-index-preserved c = λ h.
    let (held, none) = c.still_apart-apart.ensures h in
    numbers_more (get nat_cmp c.loop-index.by_event) (get nat_cmp c.insert.new.self) c.args.shown.now c.loop-index.index c.at-pair.result.now c.at-pair.ensures (sym c.in_ok-old.ensures.old ∙ none) c.in_ok-old.ensures.updates.0 (c.loop-index.invariant held)
