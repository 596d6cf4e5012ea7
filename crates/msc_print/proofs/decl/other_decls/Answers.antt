use Rattle.std.proofs.Common.{◌∙◌, sym, codes, add-one}
use Rattle.msc_print.specs.StatementWords.{decl_words}
use Rattle.msc_print.proofs.Putting.{each_step}
use Rattle.msc_print.proofs.decl.other_decls.Goals as goal

pub loop-other-preserved : goal.loop-other-preserved
loop-other-preserved c =
    rw (c.in_ok-decl.ensures, c.in_ok-word.ensures, add-one) (sym (each_step (codes ",") decl_words c.loop-other.page c.args.decls.now c.loop-other.other-index c.other-item.result c.loop-other-test.true c.other-item.is) ∙ c.loop-other.invariant)
