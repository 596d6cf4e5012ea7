use Rattle.std.proofs.Common.{ℕ, ◌≡◌, ◌≤◌, ◌/◌, length, inl, inr, get_or, subst, arith, sym, false}
use Rattle.std.specs.Int.Bits.{bit_and}
use Rattle.std.proofs.lemmas.Bool.{cases_eq, cases_lt}
use Rattle.bit_sets.specs.Blocks.{has_bit}
use Rattle.std.proofs.lemmas.Nat.{and_le_l}
use Rattle.bit_sets.proofs.BitFacts.{has_bit-past}
use Rattle.bit_sets.proofs.WordFacts.{shared_at, none_shared}
use Rattle.chart_links.proofs.bit_row.share_bit.Goals as goal
use Rattle.chart_links.proofs.bit_row.share_bit.Goals.{else-index-others-via-then-index-others+else-word-others-ne0, else-index-others-via-else-index-others}

pub returns-then-word-others-ne0 : goal.returns-then-word-others-ne0
returns-then-word-others-ne0 c =
    shared_at c.args.words.now c.args.others.now c.loop-index.index
    (omega (arith, and_le_l (get_or c.args.words.now c.loop-index.index 0) (get_or c.args.others.now c.loop-index.index 0), c.type_inv.words c.loop-index.index))
    c.if-word-others-ne0.true

pub loop-index-preserved : goal.loop-index-preserved
loop-index-preserved c n lt has_ =
    elim (cases_eq (n / 64) c.loop-index.index) [
      | inl e ↦ elim c.else-index-others.branch [
        | else-index-others-via-then-index-others+else-word-others-ne0 w ↦ none_shared c.args.words.now c.args.others.now n (subst (λ (k : ℕ). bit_and (get_or c.args.words.now k 0) (get_or c.args.others.now k 0) ≡ 0) (sym e) w.if-word-others-ne0.false) has_
        | else-index-others-via-else-index-others w ↦ let past : length c.args.others.now ≤ c.loop-index.index = w.if-index-others.false in has_bit-past c.args.others.now n (omega arith)
      ]
      | inr other ↦ c.loop-index.invariant n (omega arith) has_
    ]

pub returns : goal.returns
returns c n has_ = elim (cases_lt (n / 64) c.loop-index.index) [
  | inl lt ↦ c.loop-index.invariant n lt has_
  | inr le ↦ let lacks : has_bit c.args.words.now n ≡ false = has_bit-past c.args.words.now n (omega arith) in cc
]
