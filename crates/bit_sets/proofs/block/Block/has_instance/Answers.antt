use Rattle.std.proofs.Common.{subst, IsTrue, Contains, ◌↔◌}
use Rattle.bit_sets.specs.Blocks.{BlockValue, IsBlock}
use Rattle.bit_sets.specs.Stores.{words_of, events_of}
use Rattle.bit_sets.proofs.BitFacts.{has_bit-contains, block_of_stored}
use Rattle.bit_sets.proofs.block.Block.has_instance.Goals as goal

pub returns-clause-has : goal.returns-clause-has
returns-clause-has c =
    subst (λ (b : BlockValue). IsTrue c.has.result ↔ Contains b.instances c.args.at) c.self.view_is
    (has_bit-contains (words_of c.self.inside.sets) c.args.at c.has.result c.self.invariant.few c.has.ensures)

pub returns-clause-block : goal.returns-clause-block
returns-clause-block c = subst IsBlock c.self.view_is (block_of_stored (words_of c.self.inside.sets) (events_of c.self.inside.sets) c.self.invariant)
