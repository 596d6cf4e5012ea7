use Rattle.std.proofs.Common.{drop}
use Rattle.msc_base.specs.Lists.{IsAmong}
use Rattle.msc_base.proofs.Narrowing.{Narrows}
use Rattle.chart_text.proofs.noting.earliest_place.Given as goal

abbrev pub invariant-loop-place : goal.invariant-loop-place
invariant-loop-place l = Narrows (IsAmong l.places) (IsAmong (drop l.place-index l.places)) l.best
