use Rattle.std.proofs.Common.{length, ◌+◌, ◌<◌, ◌*◌, ◌-◌, ◌≡◌, ◌≤◌}
use Rattle.std.specs.Ordering.{ordering_then}
use Rattle.chart_term.proofs.Comparing.{rows_from}
use Rattle.chart_term.specs.Order.{tree_cmp}
use Rattle.chart_term.specs.Sizes.{nodes}
use Rattle.chart_term.proofs.term.+compare.Given as goal

abbrev pub decreases-Term::compare : goal.decreases-Term::compare
decreases-Term::compare l = goal.size-Term::compare l * 4 + 3

abbrev pub decreases-Term::compare_light : goal.decreases-Term::compare_light
decreases-Term::compare_light l = goal.size-Term::compare_light l * 4 + 2

abbrev pub decreases-RowPart::compare : goal.decreases-RowPart::compare
decreases-RowPart::compare l = goal.size-RowPart::compare l * 4

abbrev pub decreases-PartList::compare_light : goal.decreases-PartList::compare_light
decreases-PartList::compare_light l = goal.size-PartList::compare_light l * 4 + 1

abbrev pub decreases-PartList::compare_parts : goal.decreases-PartList::compare_parts
decreases-PartList::compare_parts l = goal.size-PartList::compare_parts l * 4

abbrev pub invariant-Term::compare-loop-first : goal.invariant-Term::compare-loop-first
invariant-Term::compare-loop-first l = record {
  same : ordering_then (tree_cmp l.first l.second) l.behind ≡ tree_cmp l.self l.other;
  within : nodes l.first ≤ nodes l.self;
}

abbrev pub decreases-Term::compare-loop-first : goal.decreases-Term::compare-loop-first
decreases-Term::compare-loop-first l = nodes l.first

abbrev pub invariant-PartList::compare_parts-loop-at : goal.invariant-PartList::compare_parts-loop-at
invariant-PartList::compare_parts-loop-at l = record {
  behind : l.from ≤ l.at;
  up : l.at ≤ l.to;
  within : l.at ≤ length l.self;
  other_within : l.at ≤ length l.other;
  alike : rows_from l.from l.self l.other ≡ rows_from l.at l.self l.other;
}

abbrev pub decreases-PartList::compare_parts-loop-at : goal.decreases-PartList::compare_parts-loop-at
decreases-PartList::compare_parts-loop-at l = length l.self - l.at

abbrev pub invariant-PartList::compare_light-loop-at : goal.invariant-PartList::compare_light-loop-at
invariant-PartList::compare_light-loop-at l = l.heavy < l.shared
