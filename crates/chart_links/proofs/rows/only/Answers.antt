use Rattle.std.proofs.Common.{◌≡◌, ℕ, List, [], inl, inr, ap, sym, ◌∙◌}
use Rattle.std.proofs.lemmas.Bool.{true≢false}
use Rattle.bit_sets.specs.Blocks.{has_bit, with_bit}
use Rattle.chart_links.proofs.BitFacts.{had_with, none_had}
use Rattle.chart_links.proofs.rows.only.Goals as goal

pub returns : goal.returns
returns c =
    let row : c.add.new.self ≡ with_bit [] c.args.number = c.in_ok-add.ensures ∙ ap (λ (l : List ℕ). with_bit l c.args.number) c.new-row.ensures in
    λ n. (
      λ h. elim ((had_with [] c.args.number n).0 (sym (ap (λ (l : List ℕ). has_bit l n) row) ∙ h)) [ inl t ↦ absurd (true≢false (sym t ∙ none_had n)) | inr e ↦ e ],
      λ e. ap (λ (l : List ℕ). has_bit l n) row ∙ (had_with [] c.args.number n).1 (inr e),
    )
