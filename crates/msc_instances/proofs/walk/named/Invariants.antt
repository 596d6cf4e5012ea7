use Rattle.std.proofs.Common.{◌≡◌, ◌++◌, drop}
use Rattle.chart_text.specs.PassageViews.{scope_view}
use Rattle.msc_instances.specs.Notes.{named_notes}
use Rattle.msc_instances.proofs.walk.named.Given as goal

abbrev pub invariant-loop-name : goal.invariant-loop-name
invariant-loop-name l =
    l.notes ++ named_notes (scope_view l.scope) l.place (drop l.name-index l.names) ≡ l.initial.notes ++ named_notes (scope_view l.scope) l.place l.names
