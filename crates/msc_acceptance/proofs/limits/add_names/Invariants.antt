use Rattle.std.proofs.Common.{◌≡◌, drop, fold}
use Rattle.msc_base.specs.NameTables.{with_name}
use Rattle.msc_acceptance.proofs.limits.add_names.Given as goal

abbrev pub invariant-loop-name : goal.invariant-loop-name
invariant-loop-name l = fold with_name l.table (drop l.name-index l.names) ≡ fold with_name l.initial.table l.names
