use Rattle.std.proofs.Common.{◌≡◌, drop}
use Rattle.msc_print.specs.Pages.{put_all}
use Rattle.msc_print.specs.Words.{all_words}
use Rattle.msc_print.specs.EventWords.{event_words}
use Rattle.msc_print.proofs.event.events.Given as goal

-- what is still to be written, behind what was, is the whole
abbrev pub invariant-loop-item : goal.invariant-loop-item
invariant-loop-item l = put_all l.page (all_words event_words (drop l.item-index l.events)) ≡ put_all l.initial.page (all_words event_words l.events)
