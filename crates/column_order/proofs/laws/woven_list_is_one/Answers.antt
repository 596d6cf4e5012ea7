use Rattle.column_order.proofs.WeavingLaws.{woven_is_one}
use Rattle.column_order.proofs.laws.woven_list_is_one.Goals as goal

pub returns : goal.returns
returns c = woven_is_one
