use Rattle.std.proofs.Common.{refl}
use Rattle.pattern_marks.proofs.Meeting.{none_met}
use Rattle.pattern_marks.proofs.places.Places.none.Goals as goal

pub returns : goal.returns
returns c = none_met c.args.count _ refl c.in_ok-met.ensures
