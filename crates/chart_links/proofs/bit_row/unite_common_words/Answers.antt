use Rattle.std.proofs.Common.{inl, inr, arith}
use Rattle.std.proofs.lemmas.Bool.{cases_lt}
use Rattle.chart_links.proofs.BitFacts.{past_common}
use Rattle.chart_links.proofs.bit_row.unite_common_words.Goals as goal

pub returns : goal.returns
returns c = record {
  long = c.loop-index.invariant.long;
  united = λ k. elim (cases_lt k c.loop-index.index) [
    | inl lt ↦ c.loop-index.invariant.done k lt
    | inr le ↦ past_common c.args.words.now.items c.args.one.now c.args.other.now c.loop-index.words.items k (omega arith) (c.loop-index.invariant.left k le)
  ];
}
