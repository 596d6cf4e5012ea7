use Rattle.std.proofs.Common.{[], ◌<◌, ◌↔◌, ℕ, get_or}
use Rattle.msc_base.specs.Lists.{IsIn}
use Rattle.hmsc_graph.specs.Reversals.{HasEnd}
use Rattle.hmsc_graph.proofs.net.before_ends.Given as goal

abbrev pub invariant-loop-node : goal.invariant-loop-node
invariant-loop-node l = (m : ℕ) → IsIn m l.nodes ↔ ((m < l.node) × HasEnd l.ends (get_or l.next m []))
