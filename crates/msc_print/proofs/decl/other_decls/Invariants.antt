use Rattle.std.proofs.Common.{◌≡◌, drop, codes}
use Rattle.msc_print.specs.Pages.{put_all}
use Rattle.msc_print.specs.Words.{each_behind}
use Rattle.msc_print.specs.StatementWords.{decl_words}
use Rattle.msc_print.proofs.decl.other_decls.Given as goal

-- what is still to be written, behind what was, is the whole
abbrev pub invariant-loop-other : goal.invariant-loop-other
invariant-loop-other l = put_all l.page (each_behind (codes ",") decl_words (drop l.other-index l.decls)) ≡ put_all l.initial.page (each_behind (codes ",") decl_words l.decls)
