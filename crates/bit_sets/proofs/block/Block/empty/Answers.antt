use Rattle.std.proofs.Common.{[], ap, ◌∙◌}
use Rattle.bit_sets.specs.Blocks.{bits_of}
use Rattle.bit_sets.specs.Stores.{words_of, events_of}
use Rattle.bit_sets.proofs.BitFacts.{bits_of-zero, same_blocks}
use Rattle.bit_sets.proofs.block.Block.empty.Goals as goal

pub returns : goal.returns
returns c = same_blocks (bits_of (words_of c.empty.result)) [] (events_of c.empty.result) [] (ap bits_of c.empty.ensures.words ∙ bits_of-zero) c.empty.ensures.events
