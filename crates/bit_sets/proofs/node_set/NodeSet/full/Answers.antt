use Rattle.std.proofs.Common.{◌∙◌, inl, inr, arith}
use Rattle.std.proofs.lemmas.Bool.{cases_eq}
use Rattle.bit_sets.proofs.node_set.NodeSet.full.Goals as goal

pub loop-node-preserved : goal.loop-node-preserved
loop-node-preserved c = record {
  size = c.add.ensures.size ∙ c.loop-node.invariant.size;
  nodes = λ n below. elim (cases_eq n c.loop-node.node) [
    | inl e ↦ (c.add.ensures.nodes n).1 (inr e)
    | inr ne ↦ (c.add.ensures.nodes n).1 (inl (c.loop-node.invariant.nodes n (omega arith)))
  ];
}
