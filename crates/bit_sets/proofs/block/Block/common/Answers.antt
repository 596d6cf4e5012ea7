use Rattle.bit_sets.specs.Stores.{first_of, words_of, rest_of, events_of}
use Rattle.bit_sets.proofs.SetFacts.{common_block, stored_common}
use Rattle.bit_sets.proofs.block.Block.common.Goals as goal

pub invariant_of-result : goal.invariant_of-result
invariant_of-result c =
    stored_common (words_of c.self.inside.sets) (words_of c.other.inside.sets) (events_of c.self.inside.sets) (events_of c.in_ok-sets.sets) (first_of c.in_ok-sets.sets) (rest_of c.in_ok-sets.sets) c.self.invariant c.in_ok-sets.ensures.bits c.in_ok-sets.ensures.last c.in_ok-sets.ensures.events

pub returns : goal.returns
returns c =
    common_block (words_of c.self.inside.sets) (words_of c.other.inside.sets) (words_of c.in_ok-sets.sets) (events_of c.self.inside.sets) (events_of c.other.inside.sets) (events_of c.in_ok-sets.sets) c.args.self.now c.args.other.now c.self.view_is c.other.view_is c.other.invariant c.in_ok-sets.ensures.bits c.in_ok-sets.ensures.events
