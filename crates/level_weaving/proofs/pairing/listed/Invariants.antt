use Rattle.std.proofs.Common.{◌≡◌, ◌++◌, drop, map}
use Rattle.level_weaving.specs.LevelPairs.{pair_of}
use Rattle.level_weaving.proofs.pairing.listed.Given as goal

abbrev pub invariant-loop-edge : goal.invariant-loop-edge
invariant-loop-edge l = l.list ++ map pair_of (drop l.edge-index l.edges) ≡ map pair_of l.edges
