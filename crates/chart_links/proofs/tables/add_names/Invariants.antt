use Rattle.std.proofs.Common.{◌↔◌, ◌⊎◌, ℕ, List, drop}
use Rattle.msc_base.specs.Lists.{IsAmong}
use Rattle.chart_links.proofs.tables.add_names.Given as goal

abbrev pub invariant-loop-name : goal.invariant-loop-name
invariant-loop-name l = (n : List ℕ) → (IsAmong l.table n ⊎ IsAmong (drop l.name-index l.names) n) ↔ (IsAmong l.initial.table n ⊎ IsAmong l.names n)
