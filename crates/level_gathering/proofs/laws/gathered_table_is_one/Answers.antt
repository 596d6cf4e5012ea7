use Rattle.level_gathering.proofs.OneTable.{one_gathered}
use Rattle.level_gathering.proofs.laws.gathered_table_is_one.Goals as goal

pub returns : goal.returns
returns c = one_gathered
