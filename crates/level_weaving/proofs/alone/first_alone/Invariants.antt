use Rattle.std.proofs.Common.{◌≡◌, drop, map}
use Rattle.msc_base.proofs.Narrowing.{Narrows}
use Rattle.level_weaving.specs.Alone.{IsAlone}
use Rattle.level_weaving.specs.EventViews.{event_view}
use Rattle.level_weaving.proofs.alone.first_alone.Given as goal

abbrev pub invariant-loop-placed : goal.invariant-loop-placed
invariant-loop-placed l = record {
  number : l.number ≡ l.placed-index;
  narrows : Narrows (IsAlone (map event_view l.events) l.told) (IsAlone (map event_view (drop l.placed-index l.events)) (drop l.placed-index l.told)) l.best;
}
