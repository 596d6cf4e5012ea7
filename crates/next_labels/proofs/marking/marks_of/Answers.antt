use Rattle.std.proofs.Common.{◌∙◌, List, ap, sym, subst}
use Rattle.chart_term.specs.Properties.{Each}
use Rattle.chart_term.specs.Terms.{Tree}
use Rattle.term_sets.specs.Keys.{told}
use Rattle.trace_judge.specs.Sets.{IsSoundFor}
use Rattle.next_labels.specs.Marks.{AreMarks}
use Rattle.next_labels.proofs.marking.marks_of.Goals as goal

pub marks_of_terms-requires : goal.marks_of_terms-requires
marks_of_terms-requires c = subst (λ (ts : List Tree). Each (IsSoundFor c.args.nets.now) ts) (sym c.in_ok-key.ensures ∙ ap told c.in-Listed.is) c.requires

pub returns-in-Listed : goal.returns-in-Listed
returns-in-Listed c = subst (λ (ts : List Tree). AreMarks c.args.nets.now ts c.in_ok-marks-in-Listed.marks) (sym (ap told c.in-Listed.is) ∙ c.in_ok-key.ensures) c.in_ok-marks-in-Listed.ensures
