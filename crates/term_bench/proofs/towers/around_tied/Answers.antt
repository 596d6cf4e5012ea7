use Rattle.term_bench.proofs.TiedTowers.{next_tower}
use Rattle.term_bench.proofs.towers.around_tied.Goals as goal

pub returns : goal.returns
returns c = next_tower c.args.level _ _ _ _ _ c.requires.inner c.in_ok-answered.ensures c.in_ok-input.ensures c.in_ok-parts.ensures c.in_ok-term.ensures
