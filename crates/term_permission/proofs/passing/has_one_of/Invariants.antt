use Rattle.std.proofs.Common.{take}
use Rattle.term_permission.specs.Passing.{HaveCommon}
use Rattle.term_permission.proofs.passing.has_one_of.Given as goal

abbrev pub invariant-loop-node : goal.invariant-loop-node
invariant-loop-node l = HaveCommon (take l.node-index l.nodes) l.set.nodes → ⊥
