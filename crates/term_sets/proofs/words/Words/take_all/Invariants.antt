use Rattle.std.proofs.Common.{take, true}
use Rattle.term_sets.specs.Words.{IsEachLeft}
use Rattle.term_sets.proofs.words.Words.take_all.Given as goal

abbrev pub invariant-loop-index : goal.invariant-loop-index
invariant-loop-index l = IsEachLeft l.bits (take l.index l.words) l.fn.self l.self true
