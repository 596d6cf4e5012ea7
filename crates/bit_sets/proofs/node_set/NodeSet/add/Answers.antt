use Rattle.std.proofs.Common.{ap, arith}
use Rattle.bit_sets.specs.NodeSets.{NodeSetValue}
use Rattle.bit_sets.proofs.NodeSetFacts.{added_set}
use Rattle.bit_sets.proofs.node_set.NodeSet.add.Goals as goal

pub set_bit-requires : goal.set_bit-requires
set_bit-requires c = omega (arith, c.requires, c.self.invariant, ap (λ (x : NodeSetValue). x.size) c.self.view_is)

pub returns-clause-nodes : goal.returns-clause-nodes
returns-clause-nodes c = λ n. added_set c.self.inside.size c.self.inside.words.items c.set_bit.new.words.items c.args.node n c.args.self.now c.self.view_is c.requires c.set_bit.ensures
