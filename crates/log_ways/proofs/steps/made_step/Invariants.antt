use Rattle.std.proofs.Common.{take}
use Rattle.chart_term.specs.Terms.{Tree}
use Rattle.log_ways.proofs.steps.made_step.Given as goal
use Rattle.msc_base.specs.Lists.{IsAmong}
use Rattle.term_ways.specs.Ways.{LeavesNever}

abbrev pub invariant-loop-index : goal.invariant-loop-index
invariant-loop-index l = (y : Tree) → IsAmong (take l.index l.terms.items) y → LeavesNever l.nets.tables l.label y l.goal.term
