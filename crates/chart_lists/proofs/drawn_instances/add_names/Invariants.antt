use Rattle.std.proofs.Common.{◌≡◌, drop, fold}
use Rattle.msc_base.specs.NameTables.{with_name}
use Rattle.chart_lists.specs.ListedNames.{AreSeen, listed_view}
use Rattle.chart_lists.proofs.drawn_instances.add_names.Given as goal

abbrev pub invariant-loop-name : goal.invariant-loop-name
invariant-loop-name l = record { made : fold with_name (listed_view l.list) (drop l.name-index l.names) ≡ fold with_name (listed_view l.initial.list) l.names; seen : AreSeen l.list }
