use Rattle.level_weaving.proofs.OneBody.{one_body}
use Rattle.level_weaving.proofs.laws.woven_body_is_one.Goals as goal

pub returns : goal.returns
returns c = one_body
