use Rattle.std.proofs.Common.{◌≡◌, ◌++◌, length}
use Rattle.std.specs.Vec.Iter.{into_iter_items, into_iter_len}
use Rattle.msc_acceptance.proofs.TableLaws.{AreWovenSoFar}
use Rattle.msc_acceptance.proofs.tables.woven_charts.Given as goal

abbrev pub invariant-loop-chart : goal.invariant-loop-chart
invariant-loop-chart l = record {
  split : l.yielded ++ into_iter_items l.chart-iterator ≡ l.fn.charts.items;
  left : into_iter_len l.chart-iterator ≡ length (into_iter_items l.chart-iterator);
  number : l.number ≡ length l.yielded;
  woven : AreWovenSoFar l.fn.charts.items (length l.yielded) l.made;
}
