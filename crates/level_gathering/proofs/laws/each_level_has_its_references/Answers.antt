use Rattle.level_gathering.proofs.LevelCounts.{each_level}
use Rattle.level_gathering.proofs.laws.each_level_has_its_references.Goals as goal

pub returns : goal.returns
returns c = each_level
