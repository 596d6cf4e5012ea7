use Rattle.std.proofs.Common.{take}
use Rattle.term_step.specs.Gatherings.{IsGathered}
use Rattle.term_step.proofs.all_after.search_each.Given as goal

abbrev pub invariant-loop-index : goal.invariant-loop-index
invariant-loop-index l = IsGathered l.nets.tables l.label l.initial.found.most (take l.index l.terms) l.found
