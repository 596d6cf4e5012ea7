use Rattle.std.proofs.Common.{◌∙◌}
use Rattle.chart_term.proofs.Distinct.{full_choice}
use Rattle.chart_term.proofs.term.Term.choice_parts.Goals as goal

pub returns-in-Choice : goal.returns-in-Choice
returns-in-Choice c = full_choice c.node.inside.form c.in-Choice.parts c.args.self.now c.in-Choice.is (c.node.view_is ∙ c.deref-node.ensures ∙ c.self.view_is) c.node.invariant.1
