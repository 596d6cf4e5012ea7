use Rattle.term_bench.proofs.TiedTowers.{tower_chart}
use Rattle.term_bench.proofs.towers.tied_tower.Goals as goal

pub returns : goal.returns
returns c = tower_chart _ _ c.loop-level.invariant
