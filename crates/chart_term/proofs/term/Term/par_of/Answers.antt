use Rattle.std.proofs.Common.{subst, sym}
use Rattle.chart_term.specs.Facts.{RowHasFacts}
use Rattle.chart_term.specs.Terms.{row_of}
use Rattle.chart_term.proofs.Gathering.{turns_facts}
use Rattle.chart_term.proofs.term.Term.par_of.Goals as goal

pub invariant_of-share : goal.invariant_of-share
invariant_of-share c = (turns_facts c.args.parts c.in_ok-facts.facts c.add_weight.new.self c.requires (subst (RowHasFacts (row_of c.args.parts)) (sym c.in_ok-facts.ensures) c.facts.ensures) c.add_weight.ensures, c.requires)
