use Rattle.std.proofs.Common.{◌≡◌, ◌/◌, ◌<◌, ℕ, get_or, inl, inr, subst, ap, ap₂, ◌∙◌, arith, sym, Some, ◌+◌, ◌*◌, ◌^◌}
use Rattle.std.specs.Int.Bits.{bit_xor}
use Rattle.std.specs.Int.{trailing_zeros, w64}
use Rattle.std.proofs.lemmas.Bool.{cases_lt, cases_eq}
use Rattle.std.proofs.lemmas.Nat.{xor_lt}
use Rattle.bit_sets.specs.Blocks.{IsFirstDifference}
use Rattle.bit_sets.proofs.BitFacts.{has_bit-past}
use Rattle.bit_sets.proofs.WordFacts.{differ_at, same_words}
use Rattle.bit_sets.proofs.words.first_difference.Goals as goal

pub returns-then-different-ne0 : goal.returns-then-different-ne0
returns-then-different-ne0 c =
    let same : bit_xor (get_or c.args.words.now c.loop-index.index 0) (get_or c.args.others.now c.loop-index.index 0) ≡ bit_xor c.word_at.result c.word_at-in-loop-index.result = sym (ap₂ bit_xor c.word_at.ensures c.word_at-in-loop-index.ensures) in
    subst (λ (x : ℕ). IsFirstDifference c.args.words.now c.args.others.now (Some (c.loop-index.index * 64 + trailing_zeros w64 x))) same
    (differ_at c.args.words.now c.args.others.now c.loop-index.index c.loop-index.invariant
    (subst (λ (x : ℕ). x < 2 ^ 64) (sym same) (xor_lt 64 c.word_at.result c.word_at-in-loop-index.result c.word_at.type_inv c.word_at-in-loop-index.type_inv))
    (λ e. c.if-different-ne0.true (sym same ∙ e)))

pub loop-index-preserved : goal.loop-index-preserved
loop-index-preserved c m lt = elim (cases_eq (m / 64) c.loop-index.index) [
  | inl e ↦
      same_words c.args.words.now c.args.others.now m
      (ap₂ (λ v w. bit_xor v w) (ap (λ k. get_or c.args.words.now k 0) e ∙ sym c.word_at.ensures) (ap (λ k. get_or c.args.others.now k 0) e ∙ sym c.word_at-in-loop-index.ensures) ∙ c.if-different-ne0.false)
  | inr other ↦ c.loop-index.invariant m (omega arith)
]

pub returns : goal.returns
returns c = λ n. elim (cases_lt (n / 64) c.loop-index.index) [
  | inl lt ↦ c.loop-index.invariant n lt
  | inr le ↦ has_bit-past c.args.words.now n (omega arith) ∙ sym (has_bit-past c.args.others.now n (omega arith))
]
