use Rattle.std.proofs.Common.{◌≡◌, take}
use Rattle.std.specs.BTreeSet.{contains}
use Rattle.chart_term.specs.NormalForms.{distinct}
use Rattle.chart_term.specs.Order.{tree_cmp}
use Rattle.chart_term.specs.Terms.{Tree}
use Rattle.chart_term.proofs.Distinct.{is_met}
use Rattle.chart_term.proofs.choices.distinct.Given as goal

abbrev pub invariant-loop-part : goal.invariant-loop-part
invariant-loop-part l = record {
  kept : l.kept ≡ distinct (take l.part-index l.part-items);
  seen : (x : Tree) → contains tree_cmp l.seen x ≡ is_met x (take l.part-index l.part-items);
}
