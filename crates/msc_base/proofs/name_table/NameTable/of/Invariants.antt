use Rattle.std.proofs.Common.{◌≡◌, fold, take, []}
use Rattle.msc_base.specs.NameTables.{with_name}
use Rattle.msc_base.proofs.name_table.NameTable.of.Given as goal

abbrev pub invariant-loop-name : goal.invariant-loop-name
invariant-loop-name l = l.table ≡ fold with_name [] (take l.name-index l.names)
