use Rattle.column_order.proofs.WeavingLaws.{crossed_is_one}
use Rattle.column_order.proofs.laws.crossed_at_one.Goals as goal

pub returns : goal.returns
returns c = crossed_is_one
