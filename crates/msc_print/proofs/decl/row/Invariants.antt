use Rattle.std.proofs.Common.{◌≡◌, drop}
use Rattle.msc_print.specs.Pages.{put_all}
use Rattle.msc_print.proofs.decl.row.Given as goal

-- what is still to be written, behind what was, is the whole
abbrev pub invariant-loop-name : goal.invariant-loop-name
invariant-loop-name l = put_all l.page ((drop l.name-index l.names)) ≡ put_all l.initial.page (l.names)
