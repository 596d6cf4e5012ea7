use Rattle.std.proofs.Common.{◌≡◌, take}
use Rattle.msc_tree.proofs.copying.copy_words.Given as goal

abbrev pub invariant-loop-word : goal.invariant-loop-word
invariant-loop-word l = l.copied ≡ take l.word-index l.words
