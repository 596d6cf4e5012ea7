use Rattle.std.proofs.Common.{vec_len, sym, ap, ◌∙◌, ◌≤◌, ◌≡◌, ◌++◌, ◌+◌, ◌-◌, ◌/◌, ◌<◌, replicate, length, rules, arith}
use Rattle.bit_sets.proofs.BitFacts.{widened, wide_enough, widened_enough, with_bit_widened}
use Rattle.chart_links.proofs.bit_row.set_number.Goals as goal
use Rattle.chart_links.proofs.bit_row.set_number.Goals.{then-index-len+in_ok-resize, else-index-len}

pub set_bit-requires : goal.set_bit-requires
set_bit-requires c =
    let len : c.len.result ≡ length c.args.words.now.items = search rules in
    let words : c.if-index-len.words.items ≡ c.args.words.now.items ++ replicate (c.args.at / 64 + 1 - length c.args.words.now.items) 0 =
    elim c.if-index-len.branch [
      | then-index-len+in_ok-resize w ↦
          let few : c.len.result ≤ c.args.at / 64 = w.if-index-len.true in
          widened c.args.words.now.items c.if-index-len.words.items c.args.at (vec_len c.args.words.now) (sym c.len.ensures ∙ len) (omega arith) (ap (λ v. v.items) w.words-is ∙ w.in_ok-resize.ensures.items)
      | else-index-len w ↦
          let many : c.args.at / 64 < c.len.result = w.if-index-len.false in
          wide_enough c.args.words.now.items c.if-index-len.words.items c.args.at (omega arith) (ap (λ v. v.items) w.words-is)
    ] in
    widened_enough c.args.words.now.items c.if-index-len.words.items c.args.at words

pub returns : goal.returns
returns c =
    let len : c.len.result ≡ length c.args.words.now.items = search rules in
    let words : c.if-index-len.words.items ≡ c.args.words.now.items ++ replicate (c.args.at / 64 + 1 - length c.args.words.now.items) 0 =
    elim c.if-index-len.branch [
      | then-index-len+in_ok-resize w ↦
          let few : c.len.result ≤ c.args.at / 64 = w.if-index-len.true in
          widened c.args.words.now.items c.if-index-len.words.items c.args.at (vec_len c.args.words.now) (sym c.len.ensures ∙ len) (omega arith) (ap (λ v. v.items) w.words-is ∙ w.in_ok-resize.ensures.items)
      | else-index-len w ↦
          let many : c.args.at / 64 < c.len.result = w.if-index-len.false in
          wide_enough c.args.words.now.items c.if-index-len.words.items c.args.at (omega arith) (ap (λ v. v.items) w.words-is)
    ] in
    c.set_bit.ensures ∙ with_bit_widened c.args.words.now.items c.if-index-len.words.items c.args.at words
