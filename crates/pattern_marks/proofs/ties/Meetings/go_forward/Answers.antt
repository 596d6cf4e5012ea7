use Rattle.std.proofs.Common.{◌≤◌, length, arith}
use Rattle.pattern_marks.proofs.Tying.{pairs_all, pairs_first, pairs_more, pairs_not}
use Rattle.pattern_marks.proofs.ties.Meetings.go_forward.Goals as goal

pub loop-index-init : goal.loop-index-init
loop-index-init c = pairs_first c.args.self.now.met c.args.from c.args.pairs.now

pub returns-then-not-goes_forward : goal.returns-then-not-goes_forward
returns-then-not-goes_forward c = pairs_not c.args.self.now.met c.args.from c.args.pairs.now c.loop-index.index _ c.goes_forward.result c.at.ensures c.goes_forward.ensures c.if-not-goes_forward.true

pub loop-index-preserved : goal.loop-index-preserved
loop-index-preserved c = pairs_more c.args.self.now.met c.args.from c.args.pairs.now c.loop-index.index _ c.goes_forward.result c.at.ensures c.goes_forward.ensures c.if-not-goes_forward.false c.loop-index.invariant

pub returns : goal.returns
returns c = let high : length c.args.pairs.now ≤ c.loop-index.index = omega arith in pairs_all c.args.self.now.met c.args.from c.args.pairs.now c.loop-index.index high c.loop-index.invariant
