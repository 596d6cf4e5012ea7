use Rattle.std.proofs.Common.{take, true}
use Rattle.term_sets.specs.Words.{TakesEach}
use Rattle.term_sets.proofs.words.Words.take_each.Given as goal

abbrev pub invariant-loop-index : goal.invariant-loop-index
invariant-loop-index l = TakesEach (take l.index l.bits) l.word l.fn.self l.self true
