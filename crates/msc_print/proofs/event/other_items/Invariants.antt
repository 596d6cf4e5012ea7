use Rattle.std.proofs.Common.{◌≡◌, drop, codes}
use Rattle.msc_print.specs.Pages.{put_all}
use Rattle.msc_print.specs.Words.{each_behind, alone}
use Rattle.msc_print.proofs.event.other_items.Given as goal

-- what is still to be written, behind what was, is the whole
abbrev pub invariant-loop-item : goal.invariant-loop-item
invariant-loop-item l = put_all l.page (each_behind (codes ",") alone (drop l.item-index l.items)) ≡ put_all l.initial.page (each_behind (codes ",") alone l.items)
