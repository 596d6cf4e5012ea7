use Rattle.std.proofs.Common.{ℕ, ◌≡◌, take}
use Rattle.std.specs.BTreeSet.{contains}
use Rattle.chart_term.specs.NormalForms.{kept_pairs, numbers}
use Rattle.chart_term.specs.Order.{pair_cmp}
use Rattle.chart_term.specs.Views.{pairs_of}
use Rattle.chart_term.proofs.Binds.{pair_met}
use Rattle.chart_term.proofs.ties.kept_pairs.Given as goal

abbrev pub invariant-loop-pair : goal.invariant-loop-pair
invariant-loop-pair l = record {
  kept : pairs_of l.kept ≡ kept_pairs (numbers l.term) (pairs_of (take l.pair-index l.pair-items));
  seen : (r : ℕ × ℕ) → contains pair_cmp l.seen r ≡ pair_met r (pairs_of (take l.pair-index l.pair-items));
}
