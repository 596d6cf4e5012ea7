use Rattle.std.proofs.Common.{◌≡◌, ◌++◌, drop}
use Rattle.level_weaving.specs.Marks.{edges_from}
use Rattle.level_weaving.proofs.matching.edges_of.Given as goal

abbrev pub invariant-loop-mark : goal.invariant-loop-mark
invariant-loop-mark l = record {
  index : l.index ≡ l.mark-index;
  edges : l.edges.items ++ edges_from l.direction l.mark-index (drop l.mark-index l.marks) ≡ edges_from l.direction 0 l.marks;
}
