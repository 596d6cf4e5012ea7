-- The blocks of the code, as permission takes them.
use Rattle.bit_sets.specs.Blocks.{BlockValue}
use Rattle.chart_term.specs.Terms.{Block}

-- the block
abbrev pub block_of : BlockValue → Block
block_of b = record { instances = b.instances; numbers = b.events }
