use Rattle.std.proofs.Common.{◌≡◌, ◌↔◌, List, None, Some, Bool, IfOk, IsTrue, MatchOption, rules, sym, subst}
use Rattle.chart_term.specs.Tables.{terms_over}
use Rattle.certificates.specs.Certificates.{PlacedShape}
use Rattle.certificate_texts.specs.Texts.{lines_of}
use Rattle.pattern_marks.specs.Marks.{Sign, signs, signs_of}
use Rattle.pattern_marks.specs.Runs.{IsRunOf}
use Rattle.pattern_marks.specs.declared.mark.Mark.{Mark}
use Rattle.certificate_checking.specs.Showing.{IsShown}
use Rattle.certificate_checking.specs.Tasks.{IsSure}
use Rattle.certificate_checking.proofs.Testing.{none_holds, told_holds}
use Rattle.certificate_checking.proofs.checking.check_certificate.Goals as goal

pub marks_of-requires : goal.marks_of-requires
marks_of-requires c =
    subst (λ (l : List Bool). IsSure c.args.nets.now.tables c.in_ok-outline.outline l) (sym c.as_slice.ensures.value)
    (record { term = c.args.term.now; outline = c.in_ok-outline.ensures; count = c.in_ok-answers.ensures.count; told = c.in_ok-answers.ensures.told })

pub returns-in_default : goal.returns-in_default
returns-in_default c =
    let w = terms_over c.args.nets.now.tables in
    let is : c.in_ok-marks.field-0 ≡ None = search rules in
    let m = c.in_ok-marks.ensures c.args.term.now c.in_ok-outline.ensures in
    none_holds w c.args.term.now c.args.labels.now (lines_of c.lines-lines.result.now)
    (subst (λ o. MatchOption o ((ms : List Sign) → IsShown w c.args.term.now (lines_of c.lines-lines.result.now) ms → ⊥) (λ marks. IsShown w c.args.term.now (lines_of c.lines-lines.result.now) (signs_of c.in_ok-outline.outline.terms marks.items))) is m)
    c.args.certificate.now (sym c.lines-lines.ensures)

pub returns : goal.returns
returns c =
    let w = terms_over c.args.nets.now.tables in
    let is : c.in_ok-marks.field-0 ≡ Some c.in-Some.marks = search rules in
    let m = subst (λ o. MatchOption o ((ms : List Sign) → IsShown w c.args.term.now (lines_of c.lines-lines.result.now) ms → ⊥) (λ marks. IsShown w c.args.term.now (lines_of c.lines-lines.result.now) (signs_of c.in_ok-outline.outline.terms marks.items))) is
    (c.in_ok-marks.ensures c.args.term.now c.in_ok-outline.ensures) in
    told_holds w c.args.term.now c.args.labels.now (lines_of c.lines-lines.result.now) c.checks_are_exact.ensures c.lines_are_exact.ensures (signs_of c.in_ok-outline.outline.terms c.in-Some.marks.items) m c.args.certificate.now (sym c.lines-lines.ensures) c.are_run.result
    (subst (λ (l : List Mark). IfOk c.are_run.result (λ b. (p : PlacedShape) → signs_of c.in_ok-outline.outline.terms l ≡ signs p → IsTrue b ↔ IsRunOf c.args.labels.now p)) c.as_slice-2.ensures.value c.are_run.ensures)
