-- Refining charts as the code holds them.
use Rattle.std.specs.Prelude.{List, map}
use Rattle.msc_meaning.specs.Refinements as plain
use Rattle.msc_meaning.specs.Views.{body_view}
use Rattle.refined_events.specs.MatchViews.{matches_view}
use Rattle.level_surroundings.specs.declared.refining.Refining.{Refining}

abbrev pub refining_view : Refining → plain.Refining
refining_view r = plain.refining (body_view r.body.now) (matches_view r.matches.items)

abbrev pub refinings_view : List Refining → List plain.Refining
refinings_view rs = map refining_view rs
