use Rattle.msc_base.specs.Places.{IsLeast}
use Rattle.graph_rules.specs.StuckLines.{HasStuckLine}
use Rattle.graph_rules.proofs.ends.first_stuck.Given as goal

abbrev pub invariant-loop-index : goal.invariant-loop-index
invariant-loop-index l = IsLeast (HasStuckLine l.lines l.index l.stuck.nodes) l.found
