use Rattle.std.proofs.Common.{◌/◌, ◌^◌, ap, ◌∙◌, nat_eq, sym, ◌-◌}
use Rattle.std.specs.Int.Bits.{bit_and}
use Rattle.std.proofs.lemmas.Nat.Bits.{shr_and_one}
use Rattle.bit_sets.specs.Blocks.{has_bit}
use Rattle.bit_sets.specs.Stores.{first_of, rest_of}
use Rattle.bit_sets.proofs.FirstWords.{has_bit-first, has_bit-later}
use Rattle.bit_sets.proofs.sets.Sets.has.Goals as goal

pub returns-then-at-lt64 : goal.returns-then-at-lt64
returns-then-at-lt64 c =
    ap (λ w. nat_eq (bit_and (w / 2 ^ c.args.at) 1) 1) c.first.ensures ∙ ap (λ b. nat_eq b 1) (shr_and_one (first_of c.args.self.now) c.args.at)
    ∙ sym (has_bit-first (first_of c.args.self.now) (rest_of c.args.self.now) c.args.at c.if-at-lt64.true)

pub returns-else-at-lt64 : goal.returns-else-at-lt64
returns-else-at-lt64 c =
    c.has_number.ensures ∙ ap (λ l. has_bit l (c.args.at - 64)) c.rest.ensures
    ∙ sym (has_bit-later (first_of c.args.self.now) (rest_of c.args.self.now) c.args.at c.if-at-lt64.false)
