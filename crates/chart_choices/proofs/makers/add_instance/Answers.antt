use Rattle.std.proofs.Common.{◌∙◌, ℕ, List, subst}
use Rattle.chart_choices.specs.Making.{IsAdded}
use Rattle.chart_choices.proofs.Instances.{one_added}
use Rattle.chart_choices.proofs.makers.add_instance.Goals as goal

pub returns : goal.returns
returns c =
    subst (λ (i : List ℕ). IsAdded i c.args.makers.now.keys c.insert.new.self.keys) (c.new.ensures ∙ c.in_ok-name.ensures)
    (one_added c.new.result c.args.makers.now.keys c.insert.new.self.keys c.in_ok-insert.ensures.updates.0 c.in_ok-insert.ensures.ordered)
