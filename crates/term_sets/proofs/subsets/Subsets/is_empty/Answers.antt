use Rattle.term_sets.specs.Subsets.{side_by_side}
use Rattle.term_sets.proofs.Holding.{none_held, words_none}
use Rattle.term_sets.proofs.subsets.Subsets.is_empty.Goals as goal

pub returns : goal.returns
returns c = none_held (side_by_side c.self.inside.whole) c.self.inside.words.items c.args.self.now c.is_empty.result c.self.view_is (words_none c.self.inside.words.items _ c.is_empty.result c.self.inside.words.ok.0 c.is_empty.ensures)
