use Rattle.std.proofs.Common.{◌≡◌, ◌++◌, drop}
use Rattle.chart_text.specs.PassageViews.{scope_view}
use Rattle.msc_instances.specs.Notes.{events_notes}
use Rattle.msc_instances.proofs.walk.events.Given as goal

abbrev pub invariant-loop-held : goal.invariant-loop-held
invariant-loop-held l =
    l.notes ++ events_notes (scope_view l.scope) (drop l.held-index l.list) ≡ l.initial.notes ++ events_notes (scope_view l.scope) l.list
