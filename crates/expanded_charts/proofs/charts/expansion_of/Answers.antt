use Rattle.std.proofs.Common.{subst}
use Rattle.msc_meaning.specs.FarEnds.{GateMap}
use Rattle.msc_meaning.specs.Views.{table_view}
use Rattle.expanded_charts.specs.Making.{IsMade, chart_part}
use Rattle.expanded_charts.proofs.ChartParts.{nowhere_is, whole_expansion, whole_numbering}
use Rattle.expanded_charts.proofs.charts.expansion_of.Goals as goal

pub returns-clause-numbering : goal.returns-clause-numbering
returns-clause-numbering c =
    whole_numbering (table_view c.args.charts.now) c.args.depth c.args.name.now (record { names = c.new.result; labels = c.new-2.result }) c.chart_of.new.numbering c.in_ok-made.made c.new.ensures c.new-2.ensures
    (subst (λ (g : GateMap). IsMade (record { names = c.new.result; labels = c.new-2.result }) c.chart_of.new.numbering (chart_part (table_view c.args.charts.now) c.args.depth g 0 c.args.name.now) c.in_ok-made.made) nowhere_is c.in_ok-made.ensures)

pub returns-clause-expansion : goal.returns-clause-expansion
returns-clause-expansion c =
    whole_expansion (table_view c.args.charts.now) c.args.depth c.args.name.now (record { names = c.new.result; labels = c.new-2.result }) c.chart_of.new.numbering c.in_ok-made.made c.new.ensures c.new-2.ensures
    (subst (λ (g : GateMap). IsMade (record { names = c.new.result; labels = c.new-2.result }) c.chart_of.new.numbering (chart_part (table_view c.args.charts.now) c.args.depth g 0 c.args.name.now) c.in_ok-made.made) nowhere_is c.in_ok-made.ensures)
