use Rattle.column_order.proofs.WeavingLaws.{never_woven_and_crossed}
use Rattle.column_order.proofs.laws.woven_or_crossed.Goals as goal

pub returns : goal.returns
returns c = never_woven_and_crossed
