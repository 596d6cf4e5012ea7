use Rattle.level_weaving.proofs.TextOrderLaws.{text_is_order}
use Rattle.level_weaving.proofs.laws.text_is_order.Goals as goal

pub returns : goal.returns
returns c = text_is_order
