use Rattle.std.proofs.Common.{◌<◌, ◌≤◌, arith}
use Rattle.persistent_sequence.proofs.Finding.{found_later, found_second}
use Rattle.persistent_sequence.proofs.nodes.Sequence.+find_behind.Goals as goal

pub returns-then-index-count : goal.returns-then-index-count
returns-then-index-count g t c =
    let h : c.len-count.result ≤ c.args.index = omega arith in
    found_second (g.S.Search.passes c.args.test.now) c.args.base c.args.index c.len-count.result c.args.self.now c.in-Fork.first.now c.in-Fork.second.now c.find_behind.result c.in-Fork.ensures.0 c.len-count.ensures h c.find_behind.ensures

pub returns-in-None : goal.returns-in-None
returns-in-None g t c =
    let h : c.args.index < c.len-count.result = omega arith in
    found_later (g.S.Search.passes c.args.test.now) c.args.base c.args.index c.len-count.result c.args.self.now c.in-Fork.first.now c.in-Fork.second.now c.find_behind-in-None.result c.in-Fork.ensures.0 c.len-count.ensures h c.in-None.ensures c.find_behind-in-None.ensures
