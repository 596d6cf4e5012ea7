use Rattle.std.proofs.Common.{◌≡◌, ◌++◌, inl, inr, ℕ, List, [], drop, length, ap, sym, ◌∙◌, arith}
use Rattle.std.proofs.lemmas.Bool.{cases_lt}
use Rattle.std.proofs.lemmas.List.{append-nil}
use Rattle.gate_ends.specs.FoundEnds.{inner_to}
use Rattle.join_sizes.specs.JoinSizes.{table_joins}
use Rattle.level_gathering.specs.ReferenceViews.{charts_view}
use Rattle.list_facts.proofs.Reading.{drop_end}
use Rattle.msc_meaning.specs.Views.{table_view}
use Rattle.join_sizes.proofs.Counts.{none_added}
use Rattle.join_sizes.proofs.sizes.table_sizes.Goals as goal

pub returns : goal.returns
returns c =
    let inner = inner_to (table_view c.args.table.charts.now) c.args.table.depth in
    let charts = c.args.charts.now in
    let lists = c.args.references.now in
    let n = c.loop-number.number in
    let none : table_joins inner (table_view (drop n charts)) (charts_view (drop n lists)) ≡ [] = elim (cases_lt n (length charts)) [
      | inl lt ↦ ap (λ (l : _). table_joins inner (table_view (drop n charts)) (charts_view l)) (drop_end lists n (λ low. omega (arith, low, lt, c.loop-number-test.false, c.min-count.ensures))) ∙ none_added inner (table_view (drop n charts))
      | inr ge ↦ ap (λ (l : _). table_joins inner (table_view l) (charts_view (drop n lists))) (drop_end charts n (λ low. omega (arith, low, ge)))
    ] in
    sym (append-nil c.loop-number.sizes.items) ∙ sym (ap (λ (l : List ℕ). c.loop-number.sizes.items ++ l) none) ∙ c.loop-number.invariant
