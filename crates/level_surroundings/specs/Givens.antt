-- What a level is given from around it, as the code holds it.
use Rattle.msc_meaning.specs.FarEnds.{Around}
use Rattle.level_surroundings.specs.FarEndViews.{far_ends_view}
use Rattle.level_surroundings.specs.GateWays.{ways_view}
use Rattle.level_surroundings.specs.declared.ways.Given.{Given}

abbrev pub around_view : Given → Around
around_view g = record { gates = ways_view g.ways.now; far = far_ends_view g.far.now }
