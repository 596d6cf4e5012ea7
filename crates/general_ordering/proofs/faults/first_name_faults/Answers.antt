use Rattle.std.specs.List.{flat_map}
use Rattle.std.proofs.Common.{rules, ◌≡◌, List, subst}
use Rattle.msc_meaning.proofs.LevelLaws.{listed_least}
use Rattle.msc_meaning.specs.LevelViews.{levels_view}
use Rattle.general_ordering.specs.EventNames.{Twice, Unknown, level_faults}
use Rattle.msc_base.specs.Lists.{IsAmong}
use Rattle.msc_base.specs.Places.{IsLeast}
use Rattle.msc_base.specs.declared.place.Place.{Place}
use Rattle.general_ordering.proofs.faults.first_name_faults.Goals as goal

pub returns-clause-unknown : goal.returns-clause-unknown
returns-clause-unknown c =
    let listed : c.as_slice.result.now ≡ flat_map (level_faults Unknown) (levels_view c.args.levels.now) = search rules in
    listed_least (level_faults Unknown) (levels_view c.args.levels.now) c.earliest_place.result (subst (λ (l : List Place). IsLeast (IsAmong l) c.earliest_place.result) listed c.earliest_place.ensures)

pub returns-clause-twice : goal.returns-clause-twice
returns-clause-twice c =
    let listed : c.as_slice-2.result.now ≡ flat_map (level_faults Twice) (levels_view c.args.levels.now) = search rules in
    listed_least (level_faults Twice) (levels_view c.args.levels.now) c.earliest_place-2.result (subst (λ (l : List Place). IsLeast (IsAmong l) c.earliest_place-2.result) listed c.earliest_place-2.ensures)
