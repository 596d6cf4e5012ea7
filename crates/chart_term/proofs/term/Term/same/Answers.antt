use Rattle.std.proofs.Common.{ap, ◌∙◌, nat_eq}
use Rattle.std.specs.Ordering.{ordering_index}
use Rattle.chart_term.proofs.Comparing.{equal_by_order}
use Rattle.chart_term.proofs.term.Term.same.Goals as goal

pub returns-then-weight : goal.returns-then-weight
returns-then-weight c = equal_by_order c.args.self.now c.args.other.now c.eq-then-weight.result (c.eq-then-weight.ensures ∙ ap (λ o. nat_eq (ordering_index o) 1) c.compare.ensures)
