use Rattle.std.proofs.Common.{ap, ◌∙◌, List, ℕ}
use Rattle.std.proofs.lemmas.Bool.{le-ltb}
use Rattle.bit_sets.specs.Blocks.{has_bit}
use Rattle.bit_sets.proofs.NodeSetFacts.{has_is, has_not}
use Rattle.bit_sets.proofs.node_set.NodeSet.has.Goals as goal

pub returns-then-node-self-clause-has : goal.returns-then-node-self-clause-has
returns-then-node-self-clause-has c =
    has_is c.self.inside.size c.self.inside.words.items c.args.node _ c.args.self.now c.self.view_is c.if-node-self.true
    (c.has_number.ensures ∙ ap (λ (l : List ℕ). has_bit l c.args.node) c.as_slice.ensures.value)

pub returns-else-node-self-clause-has : goal.returns-else-node-self-clause-has
returns-else-node-self-clause-has c =
    has_not c.self.inside.size c.self.inside.words.items c.args.node _ c.args.self.now c.self.view_is c.if-node-self.false (le-ltb c.args.node c.self.inside.size c.if-node-self.false)
