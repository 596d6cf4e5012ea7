use Rattle.std.proofs.Common.{◌∙◌, ap₂, arith, length-append, subst, sym, ◌||◌}
use Rattle.chart_term.specs.Facts.{RowHasFacts}
use Rattle.chart_term.specs.Terms.{row_of}
use Rattle.chart_term.proofs.Gathering.{have_both}
use Rattle.chart_term.proofs.Turns.{gap-append}
use Rattle.chart_term.proofs.term.PartList.fork.Goals as goal

pub invariant_of-share : goal.invariant_of-share
invariant_of-share c = (
  (c.requires.first, c.requires.second),
  omega (arith, c.in-Some.ensures, length-append c.args.first c.args.second),
  ap₂ (λ a b. a || b) c.has_gap.ensures c.has_gap-2.ensures ∙ sym (gap-append c.args.first c.args.second),
  have_both c.args.first c.args.second c.in_ok-facts.facts c.facts-2.result.now c.add.new.self (subst (RowHasFacts (row_of c.args.first)) (sym c.in_ok-facts.ensures) c.facts.ensures) c.facts-2.ensures c.in_ok-add.ensures,
)
