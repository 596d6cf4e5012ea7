use Rattle.std.proofs.Common.{ap, ◌∙◌, sym, nat_eq, length, get_or, ◌/◌, ◌%◌}
use Rattle.std.proofs.lemmas.Bool.{le-ltb}
use Rattle.std.proofs.lemmas.Nat.Bits.{shr_and_one}
use Rattle.bit_sets.specs.Blocks.{has_bit}
use Rattle.bit_sets.proofs.BitFacts.{has_bit-past}
use Rattle.bit_sets.proofs.words.has_number.Goals as goal

pub returns-then-index-words : goal.returns-then-index-words
unfolding has_bit
returns-then-index-words c = ap (λ b. nat_eq b 1) (shr_and_one (get_or c.args.words.now (c.args.at / 64) 0) (c.args.at % 64))

pub returns-else-index-words : goal.returns-else-index-words
returns-else-index-words c = le-ltb (c.args.at / 64) (length c.args.words.now) c.if-index-words.false ∙ sym (has_bit-past c.args.words.now c.args.at c.if-index-words.false)
