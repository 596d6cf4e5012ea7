use Rattle.std.proofs.Common.{◌≤◌, drop, length}
use Rattle.level_surroundings.specs.HeldGates.{HasLeads}
use Rattle.level_surroundings.proofs.joins.leads_of.Given as goal

abbrev pub invariant-loop-index : goal.invariant-loop-index
invariant-loop-index l = record { within : l.index ≤ length l.joins; leads : HasLeads l.leads (drop l.index l.joins) }

abbrev pub decreases-loop-index : goal.decreases-loop-index
decreases-loop-index l = l.index
