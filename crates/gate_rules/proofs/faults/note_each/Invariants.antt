use Rattle.std.proofs.Common.{◌≡◌, ◌++◌, drop}
use Rattle.gate_tables.specs.ChartGates.{AreFactsOf}
use Rattle.msc_meaning.specs.Bodies.{WovenItems}
use Rattle.msc_meaning.specs.Views.{table_view}
use Rattle.gate_rules.specs.declared.faults.GateRule.{GateRule}
use Rattle.gate_rules.specs.Callers.{callers_view}
use Rattle.gate_rules.specs.GateRules.{broken_at}
use Rattle.gate_rules.specs.Noted.{noted_by}
use Rattle.gate_rules.proofs.faults.note_each.Given as goal

abbrev pub invariant-loop-caller : goal.invariant-loop-caller
invariant-loop-caller l = (held : WovenItems) → AreFactsOf (table_view l.table.charts.now) held l.facts → (r : GateRule)
    → noted_by l.noted r ++ broken_at (table_view l.table.charts.now) held r (callers_view (drop l.caller-index l.callers)) ≡ noted_by l.initial.noted r ++ broken_at (table_view l.table.charts.now) held r (callers_view l.callers)
