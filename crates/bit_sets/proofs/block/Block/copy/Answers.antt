use Rattle.std.proofs.Common.{subst}
use Rattle.bit_sets.specs.Blocks.{IsBlock}
use Rattle.bit_sets.specs.Stores.{words_of, events_of}
use Rattle.bit_sets.proofs.BitFacts.{block_of_stored}
use Rattle.bit_sets.proofs.block.Block.copy.Goals as goal

pub returns-in_err-sets-clause-block : goal.returns-in_err-sets-clause-block
returns-in_err-sets-clause-block c = subst IsBlock c.self.view_is (block_of_stored (words_of c.self.inside.sets) (events_of c.self.inside.sets) c.self.invariant)

pub returns-clause-block : goal.returns-clause-block
returns-clause-block c = subst IsBlock c.self.view_is (block_of_stored (words_of c.self.inside.sets) (events_of c.self.inside.sets) c.self.invariant)
