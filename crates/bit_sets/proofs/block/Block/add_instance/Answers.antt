use Rattle.bit_sets.specs.Stores.{words_of, events_of}
use Rattle.bit_sets.proofs.BitFacts.{stored_after, instance_added, block_of_stored}
use Rattle.bit_sets.proofs.block.Block.add_instance.Goals as goal

pub invariant_of-self : goal.invariant_of-self
invariant_of-self c = stored_after (words_of c.self.inside.sets) (words_of c.set.new.self) (events_of c.self.inside.sets) (events_of c.set.new.self) c.args.at c.set.result c.requires c.set.ensures.ok c.set.ensures.err c.set.ensures.events c.self.invariant

pub returns-clause-ok : goal.returns-clause-ok
returns-clause-ok c = instance_added (words_of c.self.inside.sets) (words_of c.set.new.self) (events_of c.self.inside.sets) (events_of c.set.new.self) c.args.at c.args.self.now c.set.result c.requires c.self.view_is c.set.ensures.ok c.set.ensures.events

pub returns-clause-block : goal.returns-clause-block
returns-clause-block c = block_of_stored (words_of c.set.new.self) (events_of c.set.new.self) (invariant_of-self c)
