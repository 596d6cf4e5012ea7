use Rattle.std.proofs.Common.{◌≡◌, ◌++◌, drop}
use Rattle.msc_meaning.specs.LevelItems.{within}
use Rattle.level_pieces.proofs.covers.those_within.Given as goal

abbrev pub invariant-loop-name : goal.invariant-loop-name
invariant-loop-name l = l.found ++ within (drop l.name-index l.level) l.names ≡ within l.level l.names
