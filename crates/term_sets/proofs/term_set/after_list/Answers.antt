use Rattle.std.proofs.Common.{◌≡◌, IfOk, List, MatchOption, Some, sym, ◌∙◌, subst}
use Rattle.msc_base.specs.declared.label.Label.{Label}
use Rattle.chart_term.specs.Terms.{Tree}
use Rattle.term_step.specs.AllAfter.{AreAllLeft, AreTooMany}
use Rattle.term_tables.specs.NetValues.{label_number}
use Rattle.term_sets.proofs.Leaving.{one_alone}
use Rattle.term_sets.proofs.term_set.after_list.Goals as goal

pub returns-in-Some-clause-found : goal.returns-in-Some-clause-found
returns-in-Some-clause-found c =
    let e = rw c.in-Some.is at c.in_ok-subset.ensures in
    let v = c.args.nets.now in
    subst (λ (l : List Tree). IfOk c.after_subsets.result (λ found. (label : Label) → label_number v.labels label ≡ Some c.args.number → MatchOption found (AreTooMany v label l c.args.most) (AreAllLeft v label l c.args.most)))
    (e ∙ one_alone c.args.terms.now c.at.result.now (sym c.len.ensures ∙ c.if-len-eq1.true) c.at.ensures) c.after_subsets.ensures.found
