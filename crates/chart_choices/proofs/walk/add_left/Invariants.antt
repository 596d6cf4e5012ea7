use Rattle.std.proofs.Common.{drop}
use Rattle.expansion_tree.specs.Views.{expansions_view}
use Rattle.msc_meaning.specs.ItemViews.{items_view}
use Rattle.msc_meaning.specs.Refinements.{without_decomposed}
use Rattle.choice_parts.specs.ChoiceParts.{items_parts}
use Rattle.chart_choices.proofs.Steps.{IsLeft}
use Rattle.chart_choices.proofs.walk.add_left.Given as goal

abbrev pub invariant-loop-item : goal.invariant-loop-item
invariant-loop-item l =
    IsLeft l.initial.tables (items_parts (without_decomposed l.decomposed (items_view l.items)) (expansions_view l.row) l.pairs) l.initial.found.items l.tables (items_parts (without_decomposed l.decomposed (items_view (drop l.item-index l.items))) (expansions_view l.rest) l.pairs) l.found.items
