use Rattle.std.proofs.Common.{◌↔◌, ◌∙◌, Bool, IsTrue, List, get_or, false, sym, ap, subst, arith}
use Rattle.chart_term.specs.Tables.{terms_over}
use Rattle.certificates.specs.Certificates.{HasEmpty}
use Rattle.empty_terms.proofs.emptiness.can_be_empty.Goals as goal

pub returns : goal.returns
returns c =
    let w = c.args.nets.now.tables in
    let is = c.answer_at-can.ensures ∙ ap (λ (l : List Bool). get_or l 0 false) c.as_slice.ensures.value in
    subst (λ (b : Bool). IsTrue b ↔ HasEmpty (terms_over w) c.args.term.now) (sym is) (c.in_ok-answers.ensures.told 0 c.args.term.now (omega arith) c.in_ok-outline.ensures.outlined.root)
