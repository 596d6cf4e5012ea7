use Rattle.std.proofs.Common.{◌≡◌, ◌++◌, drop}
use Rattle.msc_meaning.specs.LevelViews.{levels_view}
use Rattle.msc_meaning.specs.Views.{table_view}
use Rattle.gate_rules.specs.declared.faults.GateRule.{GateRule}
use Rattle.gate_rules.specs.GateRules.{levels_places}
use Rattle.gate_rules.specs.Noted.{noted_by}
use Rattle.gate_rules.proofs.faults.note_levels.Given as goal

abbrev pub invariant-loop-level : goal.invariant-loop-level
invariant-loop-level l = (r : GateRule)
    → noted_by l.noted r ++ levels_places (table_view l.table.charts.now) r (levels_view (drop l.level-index l.levels)) ≡ noted_by l.initial.noted r ++ levels_places (table_view l.table.charts.now) r (levels_view l.levels)
