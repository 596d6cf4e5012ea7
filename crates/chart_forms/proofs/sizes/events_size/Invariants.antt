use Rattle.std.proofs.Common.{◌≡◌, ◌+◌, drop}
use Rattle.chart_forms.specs.ChartSizes.{events_size}
use Rattle.chart_forms.proofs.sizes.events_size.Given as goal

abbrev pub invariant-loop-event : goal.invariant-loop-event
invariant-loop-event l = l.total + events_size (drop l.event-index l.list) ≡ events_size l.list
