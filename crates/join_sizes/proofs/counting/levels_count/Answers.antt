use Rattle.std.proofs.Common.{◌≡◌, inl, inr, ap, drop, length, ◌∙◌, arith}
use Rattle.std.proofs.lemmas.Bool.{cases_lt}
use Rattle.gate_ends.specs.FoundEnds.{inner_to}
use Rattle.gate_ends.specs.JoinCounts.{levels_count}
use Rattle.level_gathering.specs.ReferenceViews.{lists_view}
use Rattle.list_facts.proofs.Reading.{drop_end}
use Rattle.msc_meaning.specs.LevelViews.{levels_view}
use Rattle.msc_meaning.specs.Views.{table_view}
use Rattle.join_sizes.proofs.Counts.{none_listed}
use Rattle.join_sizes.proofs.counting.levels_count.Goals as goal

pub returns : goal.returns
returns c =
    let inner = inner_to (table_view c.args.table.charts.now) c.args.table.depth in
    let levels = c.args.levels.now in
    let lists = c.args.references.now in
    let n = c.loop-number.number in
    let none : levels_count inner (levels_view (drop n levels)) (lists_view (drop n lists)) ≡ 0 = elim (cases_lt n (length levels)) [
      | inl lt ↦ ap (λ (l : _). levels_count inner (levels_view (drop n levels)) (lists_view l)) (drop_end lists n (λ low. omega (arith, low, lt, c.loop-number-test.false, c.min-count.ensures))) ∙ none_listed inner (levels_view (drop n levels))
      | inr ge ↦ ap (λ (l : _). levels_count inner (levels_view l) (lists_view (drop n lists))) (drop_end levels n (λ low. omega (arith, low, ge)))
    ] in
    omega (arith, none, c.loop-number.invariant.low, c.loop-number.invariant.all)
