use Rattle.std.proofs.Common.{◌≡◌, ◌++◌, drop}
use Rattle.chart_text.specs.PassageViews.{side_view}
use Rattle.creation_rules.specs.Creating.{barred_events, events_create}
use Rattle.creation_rules.proofs.creating.events.Given as goal

abbrev pub invariant-loop-held : goal.invariant-loop-held
invariant-loop-held l = record {
  places : l.places ++ barred_events l.refined l.before (side_view l.side) (drop l.held-index l.list)
      ≡ l.initial.places ++ barred_events l.refined l.initial.before (side_view l.side) l.list;
  created : events_create l.before (drop l.held-index l.list) ≡ events_create l.initial.before l.list;
}
