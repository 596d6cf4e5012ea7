use Rattle.std.proofs.Common.{ap, sym, ◌∙◌}
use Rattle.chart_term.specs.NormalForms.{begun}
use Rattle.chart_term.proofs.Lists.{items-trees}
use Rattle.term_sets.specs.Subsets.{side_by_side}
use Rattle.term_sets.proofs.subsets.parts_of.Goals as goal

pub returns-clause-parts : goal.returns-clause-parts
returns-clause-parts c = let s = rw c.in-Par.is at c.look.ensures in sym (ap side_by_side s.0 ∙ items-trees (begun c.in-Par.parts.now))
