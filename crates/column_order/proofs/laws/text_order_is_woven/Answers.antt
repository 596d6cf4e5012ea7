use Rattle.column_order.proofs.WeavingLaws.{text_is_woven}
use Rattle.column_order.proofs.laws.text_order_is_woven.Goals as goal

pub returns : goal.returns
returns c = text_is_woven
