use Rattle.std.proofs.Common.{ap, sym, ◌∙◌}
use Rattle.chart_term.proofs.Lists.{items-trees}
use Rattle.chart_term.specs.NormalForms.{begun}
use Rattle.log_ways.proofs.terms.parts_of.Goals as goal
use Rattle.term_sets.specs.Subsets.{side_by_side}

pub returns-in-Par-clause-parts : goal.returns-in-Par-clause-parts
returns-in-Par-clause-parts c = let s = rw c.in-Par.is at c.look.ensures in sym (ap side_by_side s.0 ∙ items-trees (begun c.in-Par.parts.now))
