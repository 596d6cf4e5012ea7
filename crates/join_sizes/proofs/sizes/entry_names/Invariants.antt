use Rattle.std.proofs.Common.{◌≡◌, [], drop, fold}
use Rattle.join_sizes.specs.Named.{names_of}
use Rattle.msc_base.specs.NameTables.{with_name}
use Rattle.join_sizes.proofs.sizes.entry_names.Given as goal

abbrev pub invariant-loop-chart : goal.invariant-loop-chart
invariant-loop-chart l = fold with_name l.names (names_of (drop l.chart-index l.charts)) ≡ fold with_name [] (names_of l.charts)
