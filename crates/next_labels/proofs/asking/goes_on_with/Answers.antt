use Rattle.std.proofs.Common.{sym}
use Rattle.next_labels.proofs.GoingOn.{goes}
use Rattle.next_labels.proofs.asking.goes_on_with.Goals as goal

pub returns : goal.returns
returns c = λ label q. goes c.args.nets.now label c.args.set.now c.in_ok-left.left c.is_none.result (c.in_ok-left.ensures.found label (sym q)) c.is_none.ensures
