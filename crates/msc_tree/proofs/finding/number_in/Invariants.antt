use Rattle.std.proofs.Common.{◌≡◌, drop, position}
use Rattle.std.specs.List.{position_from}
use Rattle.std.specs.Str.{bytes_eq}
use Rattle.msc_tree.proofs.finding.number_in.Given as goal

abbrev pub invariant-loop-other : goal.invariant-loop-other
invariant-loop-other l = record {
  number : l.number ≡ l.other-index;
  found : position_from (bytes_eq l.name) l.number (drop l.other-index l.names) ≡ position (bytes_eq l.name) l.names;
}
