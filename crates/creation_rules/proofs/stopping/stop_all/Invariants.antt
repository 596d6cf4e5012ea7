use Rattle.std.proofs.Common.{◌≡◌, drop, fold}
use Rattle.msc_base.specs.NameTables.{with_name}
use Rattle.creation_rules.proofs.stopping.stop_all.Given as goal

abbrev pub invariant-loop-name : goal.invariant-loop-name
invariant-loop-name l = fold with_name l.stopped (drop l.name-index l.names) ≡ fold with_name l.initial.stopped l.names
