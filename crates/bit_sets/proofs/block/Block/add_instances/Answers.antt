use Rattle.bit_sets.specs.Stores.{words_of, events_of}
use Rattle.bit_sets.proofs.BitFacts.{block_of_stored}
use Rattle.bit_sets.proofs.SetFacts.{stored_then, instances_added}
use Rattle.bit_sets.proofs.block.Block.add_instances.Goals as goal

pub invariant_of-self : goal.invariant_of-self
invariant_of-self c =
    stored_then (words_of c.self.inside.sets) (words_of c.other.inside.sets) (words_of c.unite.new.self) (events_of c.self.inside.sets) (events_of c.other.inside.sets) (events_of c.unite.new.self) c.unite.result c.unite.ensures.ok c.unite.ensures.err c.unite.ensures.events c.self.invariant c.other.invariant

pub returns-clause-ok : goal.returns-clause-ok
returns-clause-ok c =
    instances_added (words_of c.self.inside.sets) (words_of c.other.inside.sets) (words_of c.unite.new.self) (events_of c.self.inside.sets) (events_of c.other.inside.sets) (events_of c.unite.new.self) c.args.self.now c.args.other.now c.unite.result c.self.view_is c.other.view_is c.unite.ensures.ok c.unite.ensures.events

pub returns-clause-block : goal.returns-clause-block
returns-clause-block c = block_of_stored (words_of c.unite.new.self) (events_of c.unite.new.self) (invariant_of-self c)
