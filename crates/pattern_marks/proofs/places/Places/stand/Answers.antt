use Rattle.pattern_marks.proofs.Meeting.{free_within}
use Rattle.pattern_marks.proofs.places.Places.stand.Goals as goal

pub meet-requires-clause-some : goal.meet-requires-clause-some
meet-requires-clause-some c = (free_within c.args.labels.now c.args.place c.args.label c.args.self.now c.requires (c.is_free.ensures.0 c.if-not-is_free.false)).0

pub meet-requires-clause-within : goal.meet-requires-clause-within
meet-requires-clause-within c = (free_within c.args.labels.now c.args.place c.args.label c.args.self.now c.requires (c.is_free.ensures.0 c.if-not-is_free.false)).1

pub meet-requires-clause-few : goal.meet-requires-clause-few
meet-requires-clause-few c = (free_within c.args.labels.now c.args.place c.args.label c.args.self.now c.requires (c.is_free.ensures.0 c.if-not-is_free.false)).2

pub returns : goal.returns
returns c = (c.is_free.ensures.0 c.if-not-is_free.false, c.meet.ensures)
