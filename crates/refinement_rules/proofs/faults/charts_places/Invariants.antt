use Rattle.std.proofs.Common.{drop}
use Rattle.msc_base.proofs.Narrowing.{Narrows}
use Rattle.msc_meaning.specs.Views.{entry_view}
use Rattle.msc_meaning.specs.declared.body.ChartEntry as code
use Rattle.refinement_rules.specs.Earliest.{EntryBreaksBy, told}
use Rattle.refinement_rules.specs.Walks.{OneHolds}
use Rattle.refinement_rules.specs.declared.faults.RefinementRule.{RefinementRule}
use Rattle.refinement_rules.proofs.faults.charts_places.Given as goal

abbrev pub invariant-loop-chart : goal.invariant-loop-chart
invariant-loop-chart l = (r : RefinementRule)
    → Narrows (OneHolds (λ (x : code.ChartEntry). EntryBreaksBy l.known (entry_view x) r) l.known.table.charts.now) (OneHolds (λ (x : code.ChartEntry). EntryBreaksBy l.known (entry_view x) r) (drop l.chart-index l.known.table.charts.now)) (told r l.places)
