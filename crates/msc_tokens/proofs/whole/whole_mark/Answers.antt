use Rattle.std.proofs.Common.{◌≡◌, ℕ, Bool, cond, arith, ap, sym, ◌∙◌}
use Rattle.msc_tokens.proofs.Wholes.{mark_is_whole}
use Rattle.msc_tokens.proofs.whole.whole_mark.Goals.{then-is_pair, else-is_pair}
use Rattle.msc_tokens.proofs.whole.whole_mark.Goals as goal

pub returns-clause-whole : goal.returns-clause-whole
returns-clause-whole c =
    let count : c.if-is_pair.count ≡ cond c.is_pair.result 2 1 =
    elim c.if-is_pair.branch [
      | then-is_pair w ↦ w.count-is ∙ ap (λ (t : Bool). let n : ℕ = cond t 2 1 in n) (sym w.if-is_pair.true)
      | else-is_pair w ↦ w.count-is ∙ ap (λ (t : Bool). let n : ℕ = cond t 2 1 in n) (sym w.if-is_pair.false)
    ] in
    mark_is_whole c.args.bytes.now c.is_pair.result c.if-is_pair.count c.split_at.result.0.now c.split_at.result.1.now (omega (arith, c.if-bytes-lt2.false))
    (sym c.is_mark_byte.ensures ∙ c.if-not-is_mark_byte.false) (sym c.is_pair.ensures) count c.split_at.ensures.front c.split_at.ensures.back
