use Rattle.std.proofs.Common.{◌≡◌, inl, inr, get_or, ap, ◌∙◌, sym, arith}
use Rattle.std.specs.Int.Bits.{bit_or, or_zero_r}
use Rattle.std.proofs.lemmas.Bool.{cases_lt}
use Rattle.std.proofs.lemmas.List.{get_or_past}
use Rattle.chart_links.proofs.bit_row.unite_words.Goals as goal

pub returns : goal.returns
returns c = record {
  long = c.loop-index.invariant.long;
  united = λ k. elim (cases_lt k c.loop-index.index) [
    | inl lt ↦ c.loop-index.invariant.done k lt
    | inr le ↦
        let past : get_or c.args.others.now k 0 ≡ 0 = get_or_past c.args.others.now k 0 (omega arith) in
        c.loop-index.invariant.left k le ∙ sym (ap (λ w. bit_or (get_or c.args.words.now.items k 0) w) past ∙ or_zero_r (get_or c.args.words.now.items k 0))
  ];
}
