use Rattle.std.proofs.Common.{subst, sym, ◌∙◌}
use Rattle.term_facts.specs.NodeFacts.{Adds}
use Rattle.chart_term.proofs.Gathering.{row_facts-next_gap, row_facts-next_turn}
use Rattle.chart_term.proofs.term.parts.facts_of.Goals as goal
use Rattle.chart_term.proofs.term.parts.facts_of.Goals.{in-Gap, in-Turn+in_ok-add-in-Turn}

pub loop-part-preserved : goal.loop-part-preserved
loop-part-preserved c = elim c.match-part.branch [
  | in-Gap w ↦ row_facts-next_gap c.args.parts.now c.loop-part.part-index c.part-item.result w.in-Gap.field-0 c.loop-part.facts c.match-part.facts c.loop-part-test.true c.part-item.is w.in-Gap.is c.loop-part.invariant (w.facts-is ∙ w.add_weight.ensures)
  | in-Turn+in_ok-add-in-Turn w ↦ row_facts-next_turn c.args.parts.now c.loop-part.part-index c.part-item.result w.in-Turn.turn c.loop-part.facts w.facts.result.now c.match-part.facts c.loop-part-test.true c.part-item.is w.in-Turn.is c.loop-part.invariant w.facts.ensures (subst (Adds c.loop-part.facts w.facts.result.now) (sym w.facts-is) w.in_ok-add-in-Turn.ensures)
]
