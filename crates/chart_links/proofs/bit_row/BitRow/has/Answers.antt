use Rattle.std.proofs.Common.{◌≡◌, ◌≤◌, ◌<◌, ◌^◌, List, ℕ, ap, ◌∙◌, sym, nat_eq, length, get_or, ◌/◌, ◌%◌, rules, arith}
use Rattle.std.proofs.lemmas.Bool.{le-ltb}
use Rattle.std.proofs.lemmas.List.{get_or_default}
use Rattle.std.proofs.lemmas.Nat.Bits.{shr_and_one}
use Rattle.bit_sets.specs.Blocks.{has_bit}
use Rattle.bit_sets.proofs.BitFacts.{has_bit-past}
use Rattle.bit_sets.proofs.WordFacts.{has_bit_is}
use Rattle.std.specs.Int.Bits.{bit_and}
use Rattle.chart_links.proofs.bit_row.BitRow.has.Goals as goal

pub returns-then-index-len : goal.returns-then-index-len
returns-then-index-len c =
    let words = c.self.inside.words.items in
    let len : c.len.result ≡ length words = search rules in
    let low : c.args.at / 64 < length words = omega (arith, c.if-index-len.true, len) in
    let word : c.index.result.now ≡ get_or words (c.args.at / 64) 0 = c.index.ensures ∙ get_or_default words (c.args.at / 64) c.index.result.now 0 low in
    ap (λ (w : ℕ). nat_eq (bit_and (w / 2 ^ (c.args.at % 64)) 1) 1) word ∙ ap (λ b. nat_eq b 1) (shr_and_one (get_or words (c.args.at / 64) 0) (c.args.at % 64)) ∙ sym (has_bit_is words (c.args.at))
    ∙ ap (λ (l : List ℕ). has_bit l c.args.at) c.self.view_is

pub returns-else-index-len : goal.returns-else-index-len
returns-else-index-len c =
    let len : c.len.result ≡ length c.self.inside.words.items = search rules in
    let past : length c.self.inside.words.items ≤ c.args.at / 64 = omega (arith, c.if-index-len.false, len) in
    le-ltb (c.args.at / 64) c.len.result c.if-index-len.false ∙ sym (has_bit-past c.self.inside.words.items c.args.at past) ∙ ap (λ (l : List ℕ). has_bit l c.args.at) c.self.view_is
