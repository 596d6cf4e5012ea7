use Rattle.std.proofs.Common.{refl}
use Rattle.trace_judge.proofs.TrackFacts.{new_fed, new_large}
use Rattle.trace_judge.proofs.track.Track.new.Goals as goal

pub returns-in-Ok-clause-fed : goal.returns-in-Ok-clause-fed
returns-in-Ok-clause-fed g c = new_fed g.S.Store.holds _ _ _ c.in-Ok.set _ c.weight-largest.result c.requires.sound c.in-Ok.ensures.set c.in-Ok.ensures.within c.weight-largest.ensures refl

pub returns-in-Err-TooLarge-clause-fed : goal.returns-in-Err-TooLarge-clause-fed
returns-in-Err-TooLarge-clause-fed g c = new_large g.S.Store.holds _ _ _ _ c.requires.sound (c.in-Err-TooLarge.ensures.above c.in-Err-TooLarge.field-0-is) refl
