use Rattle.std.proofs.Common.{◌≤◌, arith}
use Rattle.std.specs.Option.{option_to_list}
use Rattle.persistent_sequence.proofs.Splices.{changed_second}
use Rattle.persistent_sequence.proofs.nodes.Sequence.+splice.Goals as goal

pub returns-in_ok-changed-in-Fork-2 : goal.returns-in_ok-changed-in-Fork-2
returns-in_ok-changed-in-Fork-2 g t c =
    let h : c.len-count.result ≤ c.args.index = omega arith in
    let e = changed_second c.args.self.now c.in-Fork.first.now c.in-Fork.second.now (option_to_list c.args.item) c.in_ok-changed-in-Fork-2.changed c.args.index c.args.skip c.len-count.result c.in-Fork.ensures.0 c.len-count.ensures h c.in_ok-changed-in-Fork-2.ensures in
    rw (← e) c.concat-else-index-skip.ensures
