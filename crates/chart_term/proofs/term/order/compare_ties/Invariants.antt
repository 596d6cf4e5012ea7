use Rattle.std.proofs.Common.{length, drop, ◌-◌, ◌≡◌, ◌≤◌}
use Rattle.term_facts.proofs.Listing.{list_cmp, held_cmp}
use Rattle.chart_term.proofs.term.order.compare_ties.Given as goal

abbrev pub invariant-loop-at : goal.invariant-loop-at
invariant-loop-at l = record {
  within : l.at ≤ length l.pairs;
  other_within : l.at ≤ length l.others;
  alike : list_cmp held_cmp l.pairs l.others ≡ list_cmp held_cmp (drop l.at l.pairs) (drop l.at l.others);
}

abbrev pub decreases-loop-at : goal.decreases-loop-at
decreases-loop-at l = length l.pairs - l.at
