use Rattle.std.proofs.Common.{◌≡◌, ◌++◌, drop}
use Rattle.msc_meaning.specs.Views.{table_view}
use Rattle.gate_rules.specs.declared.faults.GateRule.{GateRule}
use Rattle.gate_rules.specs.GateRules.{table_places}
use Rattle.gate_rules.specs.Noted.{noted_by}
use Rattle.gate_rules.proofs.faults.note_charts.Given as goal

abbrev pub invariant-loop-chart : goal.invariant-loop-chart
invariant-loop-chart l = (r : GateRule)
    → noted_by l.noted r ++ table_places (table_view l.table.charts.now) r (table_view (drop l.chart-index l.charts)) ≡ noted_by l.initial.noted r ++ table_places (table_view l.table.charts.now) r (table_view l.charts)
