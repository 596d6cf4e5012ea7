use Rattle.std.proofs.Common.{subst, sym}
use Rattle.chart_term.specs.Facts.{HasFacts, RowHasFacts}
use Rattle.chart_term.specs.Terms.{Loop, row_of}
use Rattle.chart_term.specs.declared.term.LoopForm.{LoopForm}
use Rattle.chart_term.proofs.Gathering.{loop_facts}
use Rattle.chart_term.proofs.term.Term.loop_of.Goals as goal

pub invariant_of-share : goal.invariant_of-share
invariant_of-share c = (
  subst (λ (l : LoopForm). HasFacts (Loop l.body l.lower l.upper (row_of l.row)) c.add_weight.new.self) (sym c.in_ok-new.ensures.ok)
      (loop_facts c.args.body c.args.lower c.args.upper (row_of c.args.row) c.in_ok-facts.facts c.facts-2.result.now c.add.new.self c.add_weight.new.self (subst (RowHasFacts (row_of c.args.row)) (sym c.in_ok-facts.ensures) c.facts.ensures) c.facts-2.ensures c.in_ok-add.ensures c.add_weight.ensures),
  tt,
)
