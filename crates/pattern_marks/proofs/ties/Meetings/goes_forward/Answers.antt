use Rattle.pattern_marks.proofs.Tying.{pair_goes}
use Rattle.pattern_marks.proofs.ties.Meetings.goes_forward.Goals as goal

pub returns : goal.returns
returns c = pair_goes c.args.self.now.met c.args.from c.args.pair c.span-first.result c.span-second.result c.precede.result c.span-first.ensures c.span-second.ensures c.precede.ensures
