use Rattle.std.proofs.Common.{◌≡◌, drop, codes}
use Rattle.msc_print.specs.Pages.{put_all}
use Rattle.msc_print.specs.Words.{each_behind, alone}
use Rattle.msc_print.proofs.parts.other_names.Given as goal

-- what is still to be written, behind what was, is the whole
abbrev pub invariant-loop-name : goal.invariant-loop-name
invariant-loop-name l = put_all l.page (each_behind (codes ",") alone (drop l.name-index l.names)) ≡ put_all l.initial.page (each_behind (codes ",") alone l.names)
