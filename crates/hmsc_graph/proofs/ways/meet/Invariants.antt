use Rattle.std.proofs.Common.{take}
use Rattle.hmsc_graph.specs.Steps.{HaveMet}
use Rattle.hmsc_graph.proofs.ways.meet.Given as goal

abbrev pub invariant-loop-node : goal.invariant-loop-node
invariant-loop-node l = HaveMet (take l.node-index l.nodes) l.before l.initial.met l.initial.steps l.met l.steps
