use Rattle.std.proofs.Common.{◌≡◌, drop}
use Rattle.std.specs.Str.{bytes_eq}
use Rattle.msc_tree.proofs.finding.same_bytes.Given as goal

abbrev pub invariant-loop-index : goal.invariant-loop-index
invariant-loop-index l = bytes_eq (drop l.index l.a) (drop l.index l.b) ≡ bytes_eq l.a l.b
