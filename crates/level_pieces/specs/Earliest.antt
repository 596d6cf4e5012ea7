-- The earlier of two places, each of which there may not be.
use Rattle.std.specs.Prelude.{Option, None, Some}
use Rattle.msc_base.specs.Places.{earliest}
use Rattle.msc_base.specs.declared.place.Place.{Place}

abbrev pub earliest_of : Option Place → Option Place → Option Place
earliest_of so_far None = so_far
earliest_of so_far (Some place) = earliest so_far place
