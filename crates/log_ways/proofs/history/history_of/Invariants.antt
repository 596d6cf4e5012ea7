use Rattle.std.proofs.Common.{take}
use Rattle.log_ways.proofs.history.history_of.Given as goal
use Rattle.log_ways.specs.Trails.{IsHistory}

abbrev pub invariant-loop-index : goal.invariant-loop-index
invariant-loop-index l = IsHistory l.nets l.budget l.term (take l.index l.numbers) l.history
