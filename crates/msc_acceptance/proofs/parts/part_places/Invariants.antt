use Rattle.std.proofs.Common.{◌≡◌}
use Rattle.msc_acceptance.proofs.TableLaws.{ArePartsSoFar}
use Rattle.msc_acceptance.proofs.parts.part_places.Given as goal

abbrev pub invariant-loop-chart : goal.invariant-loop-chart
invariant-loop-chart l = record { number : l.number ≡ l.chart-index; parts : ArePartsSoFar l.charts l.chart-index l.places }
