use Rattle.std.proofs.Common.{◌∙◌, sym, add-one}
use Rattle.msc_print.specs.EventWords.{event_words}
use Rattle.msc_print.proofs.Putting.{all_step}
use Rattle.msc_print.proofs.event.events.Goals as goal

pub loop-item-preserved : goal.loop-item-preserved
loop-item-preserved c =
    rw (c.in_ok-event.ensures, add-one) (sym (all_step event_words c.loop-item.page c.args.events.now c.loop-item.item-index c.item-item.result c.loop-item-test.true c.item-item.is) ∙ c.loop-item.invariant)
