use Rattle.std.proofs.Common.{◌↔◌, IsTrue, List, ap, sym, ◌∙◌, subst}
use Rattle.chart_term.specs.Terms.{Tree}
use Rattle.term_sets.specs.Forms.{held}
use Rattle.trace_judge.specs.Sets.{HasEnding}
use Rattle.term_sets.proofs.term_set.TermSet.may_end.Goals as goal

pub returns-in-Subsets : goal.returns-in-Subsets
returns-in-Subsets c = subst (λ (l : List Tree). IsTrue c.may_end.result ↔ HasEnding c.args.nets.now l) (ap held (sym c.in-Subsets.is) ∙ c.self.view_is) (c.may_end.ensures c.args.nets.now)
