use Rattle.std.specs.List.{flat_map}
use Rattle.std.proofs.Common.{◌≡◌, ◌++◌, drop}
use Rattle.msc_meaning.specs.LevelViews.{levels_view}
use Rattle.general_ordering.specs.EventNames.{Twice, Unknown, level_faults}
use Rattle.general_ordering.proofs.faults.note_levels.Given as goal

abbrev pub invariant-loop-level : goal.invariant-loop-level
invariant-loop-level l = record {
  unknown : l.places.unknown ++ flat_map (level_faults Unknown) (levels_view (drop l.level-index l.levels)) ≡ l.initial.places.unknown ++ flat_map (level_faults Unknown) (levels_view l.levels);
  twice : l.places.twice ++ flat_map (level_faults Twice) (levels_view (drop l.level-index l.levels)) ≡ l.initial.places.twice ++ flat_map (level_faults Twice) (levels_view l.levels);
}
