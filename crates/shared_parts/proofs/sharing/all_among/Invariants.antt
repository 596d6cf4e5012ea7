use Rattle.std.proofs.Common.{drop}
use Rattle.shared_parts.specs.Sharing.{AllAmong, OneIsMissing}
use Rattle.shared_parts.proofs.sharing.all_among.Given as goal

abbrev pub invariant-loop-name : goal.invariant-loop-name
invariant-loop-name l = record {
  all : AllAmong l.columns (drop l.name-index l.names) → AllAmong l.columns l.names;
  one : OneIsMissing l.columns (drop l.name-index l.names) → OneIsMissing l.columns l.names;
}
